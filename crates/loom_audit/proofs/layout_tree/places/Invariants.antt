use Rattle.loom_types.specs.LayoutTree.{tree_of}
use Rattle.loom_project.specs.Project.{net_topology}
use Rattle.loom_audit.proofs.PlacedSteps.{ArePlaced}
use Rattle.loom_audit.proofs.layout_tree.places.Given as goal

abbrev pub invariant-loop-step : goal.invariant-loop-step
invariant-loop-step l = ArePlaced (net_topology l.project l.net.0) l.fn.start.0 (tree_of l.layout) l.places.items l.step-index
