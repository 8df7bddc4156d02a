use Rattle.std.proofs.Common.{◌≤◌, ◌-◌, length}
use Rattle.std.specs.List.{Contains}
use Rattle.loom_topology.specs.Found.{IsFound, view_of_found}
use Rattle.loom_topology.proofs.Found.{IsClosed}
use Rattle.loom_topology.proofs.spreading.found_from.Given as goal

abbrev pub invariant-loop-next : goal.invariant-loop-next
invariant-loop-next l = record {
  kept : IsFound l.topology l.fn.start.0 (view_of_found l.found);
  first : Contains (view_of_found l.found).nodes l.fn.start.0;
  within : l.next ≤ length (view_of_found l.found).nodes;
  closed : IsClosed l.topology l.next (view_of_found l.found);
}

abbrev pub decreases-loop-next : goal.decreases-loop-next
decreases-loop-next l = length l.topology.nodes - l.next
