use Rattle.loom_topology.specs.Topology.{node_of}
use Rattle.loom_types.specs.LayoutTree.{tree_of}
use Rattle.loom_audit.specs.CutSets.{first_of}
use Rattle.loom_audit.proofs.SpliceSteps.{AreNamed}
use Rattle.loom_audit.proofs.splice.splices.Given as goal

abbrev pub invariant-loop-point : goal.invariant-loop-point
invariant-loop-point l =
    AreNamed l.topology (node_of l.topology (first_of l.set)) (tree_of l.set.layout) l.ordinals.items l.splices.items l.point
