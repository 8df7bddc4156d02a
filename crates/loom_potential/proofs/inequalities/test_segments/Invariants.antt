use Rattle.std.proofs.Common.{◌≡◌, Ok, take}
use Rattle.loom_topology.specs.Topology.{open_at}
use Rattle.loom_topology.specs.Table.{cell_at}
use Rattle.loom_base.specs.First.{every}
use Rattle.loom_potential.specs.FirstBreak.{over_check}
use Rattle.loom_potential.proofs.inequalities.test_segments.Given as goal

abbrev pub invariant-loop-segment : goal.invariant-loop-segment
invariant-loop-segment l =
    every (over_check l.topology (cell_at l.table) l.mask l.node.0) (take l.segment-index (open_at l.topology l.node.0)) ≡ Ok tt
