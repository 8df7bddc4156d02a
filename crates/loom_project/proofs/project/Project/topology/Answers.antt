use Rattle.std.proofs.Common.{ap, ◌∙◌}
use Rattle.loom_project.specs.Project.{topology_of}
use Rattle.loom_project.proofs.PartsLemmas.{count_nodes, count_segments, count_cavities}
use Rattle.loom_project.proofs.project.Project.topology.Goals as goal

pub returns-clause-nodes : goal.returns-clause-nodes
returns-clause-nodes c = count_nodes c.args.self.now _ (c.self.invariant.topology ∙ ap topology_of c.self.view_is)

pub returns-clause-segments : goal.returns-clause-segments
returns-clause-segments c = count_segments c.args.self.now _ (c.self.invariant.topology ∙ ap topology_of c.self.view_is)

pub returns-clause-cavities : goal.returns-clause-cavities
returns-clause-cavities c = count_cavities c.args.self.now _ (c.self.invariant.topology ∙ ap topology_of c.self.view_is)
