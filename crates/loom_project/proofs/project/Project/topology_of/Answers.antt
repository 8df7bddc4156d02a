use Rattle.std.proofs.Common.{map, length, ap, ◌∙◌}
use Rattle.std.proofs.lemmas.Result.{IfOk-weaker}
use Rattle.loom_project.specs.Project.{topology_of}
use Rattle.loom_project.specs.Classes.{net_classes, segment_bars}
use Rattle.loom_project.proofs.PartsLemmas.{net_made, count_segments, count_bars, count_net_nodes, count_net_segments, count_net_cavities}
use Rattle.loom_project.proofs.SoundLemmas.{few_segments}
use Rattle.loom_project.proofs.project.Project.topology_of.Goals as goal

pub barred_segments-requires : goal.barred_segments-requires
barred_segments-requires c =
    rw (c.as_slice-bars.ensures, count_bars c.self.inside.draft c.self.inside.classes.barred c.self.invariant.bars)
    (few_segments c.self.inside.draft c.self.invariant.sound)

pub shut-requires : goal.shut-requires
shut-requires c = λ k d lt.
    rw (
      count_segments c.self.inside.draft c.self.inside.topology c.self.invariant.topology,
      ← count_bars c.self.inside.draft c.self.inside.classes.barred c.self.invariant.bars,
      ← c.as_slice-bars.ensures,
      c.as_slice.ensures,
    )
    (c.in_ok-barred.ensures.within k d (rw (← c.as_slice.ensures) lt))

pub returns : goal.returns
returns c =
    let draft = c.args.self.now in
    let net = c.args.net.0 in
    let topology = IfOk-weaker c.shut.result _ _
    (λ shut is. is ∙ net_made draft net c.self.inside.topology (map (λ s. s.0) c.as_slice.result.now) c.as_slice-bars.result.now c.class_number.result c.requires
    (c.self.invariant.topology ∙ ap topology_of c.self.view_is)
    (c.as_slice-bars.ensures ∙ c.self.invariant.bars ∙ ap (λ d. segment_bars (net_classes d.nets) d.segments) c.self.view_is) c.class_number.ensures
    (ap (map (λ s. s.0)) c.as_slice.ensures ∙ c.in_ok-barred.ensures.barred))
    c.shut.ensures.value in
    record {
      topology = topology;
      nodes = IfOk-weaker c.shut.result _ _ (λ shut is. ap (λ t. length t.nodes) is ∙ count_net_nodes draft net) topology;
      segments = IfOk-weaker c.shut.result _ _ (λ shut is. ap (λ t. length t.segments) is ∙ count_net_segments draft net) topology;
      cavities = IfOk-weaker c.shut.result _ _ (λ shut is. ap (λ t. length t.cavities) is ∙ count_net_cavities draft net) topology;
    }
