use Rattle.std.proofs.Common.{◌≡◌, ◌<◌, List, length, sym, ap, ◌∙◌, arith}
use Rattle.loom_topology.specs.Topology.{TopologyView}
use Rattle.loom_topology.specs.Topology as topologies
use Rattle.loom_project.specs.declared.draft.Draft.{Draft}
use Rattle.loom_project.specs.declared.draft.NodeDraft.{NodeDraft}
use Rattle.loom_project.specs.Project.{topology_of}
use Rattle.loom_project.specs.Sound.{draft_check}
use Rattle.loom_project.proofs.PartsLemmas.{count_nodes}
use Rattle.loom_project.proofs.NumberLemmas.{sound-with_branch, topology-with_branch}
use Rattle.loom_project.proofs.project.Project.set_branch.Goals as goal

pub set_branch-requires : goal.set_branch-requires
set_branch-requires c =
    let count : length c.self.inside.draft.nodes ≡ length c.args.self.now.nodes = ap (λ (d : Draft). length d.nodes) c.self.view_is in
    omega (arith, c.requires)

pub set_branch-requires-2 : goal.set_branch-requires-2
set_branch-requires-2 c =
    let count : length c.self.inside.draft.nodes ≡ length c.args.self.now.nodes = ap (λ (d : Draft). length d.nodes) c.self.view_is in
    omega (arith, c.requires, count_nodes c.self.inside.draft c.self.inside.topology c.self.invariant.topology)

pub invariant_of-self : goal.invariant_of-self
invariant_of-self c =
    let draft = c.self.inside.draft in
    let v = c.args.node.0 in
    let branch = c.args.branch in
    let count : length draft.nodes ≡ length c.args.self.now.nodes = ap (λ (d : Draft). length d.nodes) c.self.view_is in
    let within : v < length draft.nodes = omega (arith, c.requires) in
    let with : List NodeDraft → Draft = λ nodes. record draft { nodes = nodes } in
    record {
      sound = ap (λ nodes. draft_check (with nodes)) c.set_branch.ensures ∙ sound-with_branch draft v branch ∙ c.self.invariant.sound;
      options = c.self.invariant.options;
      topology =
          c.set_branch-2.ensures
          ∙ ap (λ (t : TopologyView). topologies.with_branch t v branch) c.self.invariant.topology
          ∙ topology-with_branch draft v branch within
          ∙ sym (ap (λ nodes. topology_of (with nodes)) c.set_branch.ensures);
      cavities = c.self.invariant.cavities;
      classes = c.self.invariant.classes;
      bars = c.self.invariant.bars;
    }

pub returns-clause-sound : goal.returns-clause-sound
returns-clause-sound c =
    let draft = c.self.inside.draft in
    let with : List NodeDraft → Draft = λ nodes. record draft { nodes = nodes } in
    ap (λ nodes. draft_check (with nodes)) c.set_branch.ensures
    ∙ sound-with_branch draft c.args.node.0 c.args.branch ∙ c.self.invariant.sound
