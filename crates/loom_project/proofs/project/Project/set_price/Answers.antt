use Rattle.std.proofs.Common.{◌≡◌, ◌<◌, List, length, sym, ap, ◌∙◌, arith}
use Rattle.loom_topology.specs.Topology.{TopologyView}
use Rattle.loom_topology.specs.Topology as topologies
use Rattle.loom_project.specs.declared.draft.Draft.{Draft}
use Rattle.loom_project.specs.declared.draft.SegmentDraft.{SegmentDraft}
use Rattle.loom_project.specs.Project.{topology_of}
use Rattle.loom_project.specs.Classes.{net_classes, segment_bars}
use Rattle.loom_project.specs.Sound.{draft_check}
use Rattle.loom_project.proofs.PartsLemmas.{count_segments}
use Rattle.loom_project.proofs.NumberLemmas.{sound-with_price, topology-with_price, bars-with_price}
use Rattle.loom_project.proofs.project.Project.set_price.Goals as goal

pub set_price-requires : goal.set_price-requires
set_price-requires c =
    let count : length c.self.inside.draft.segments ≡ length c.args.self.now.segments = ap (λ (d : Draft). length d.segments) c.self.view_is in
    omega (arith, c.requires)

pub set_price-requires-2 : goal.set_price-requires-2
set_price-requires-2 c =
    let count : length c.self.inside.draft.segments ≡ length c.args.self.now.segments = ap (λ (d : Draft). length d.segments) c.self.view_is in
    omega (arith, c.requires, count_segments c.self.inside.draft c.self.inside.topology c.self.invariant.topology)

pub invariant_of-self : goal.invariant_of-self
invariant_of-self c =
    let draft = c.self.inside.draft in
    let s = c.args.segment.0 in
    let price = c.args.price in
    let count : length draft.segments ≡ length c.args.self.now.segments = ap (λ (d : Draft). length d.segments) c.self.view_is in
    let within : s < length draft.segments = omega (arith, c.requires) in
    let with : List SegmentDraft → Draft = λ segments. record draft { segments = segments } in
    record {
      sound = ap (λ segments. draft_check (with segments)) c.set_price.ensures ∙ sound-with_price draft s price ∙ c.self.invariant.sound;
      options = c.self.invariant.options;
      topology =
          c.set_price-2.ensures
          ∙ ap (λ (t : TopologyView). topologies.with_price t s price) c.self.invariant.topology
          ∙ topology-with_price draft s price within
          ∙ sym (ap (λ segments. topology_of (with segments)) c.set_price.ensures);
      cavities = c.self.invariant.cavities;
      classes = c.self.invariant.classes;
      bars =
          c.self.invariant.bars
          ∙ sym (ap (segment_bars (net_classes draft.nets)) c.set_price.ensures ∙ bars-with_price (net_classes draft.nets) draft.segments s price);
    }

pub returns-clause-sound : goal.returns-clause-sound
returns-clause-sound c =
    let draft = c.self.inside.draft in
    let with : List SegmentDraft → Draft = λ segments. record draft { segments = segments } in
    ap (λ segments. draft_check (with segments)) c.set_price.ensures
    ∙ sound-with_price draft c.args.segment.0 c.args.price ∙ c.self.invariant.sound
