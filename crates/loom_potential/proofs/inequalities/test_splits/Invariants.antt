use Rattle.std.proofs.Common.{◌≡◌, ◌-◌, ◌≤◌, true}
use Rattle.loom_topology.specs.Table.{cell_at}
use Rattle.loom_potential.specs.FirstBreak.{is_first_part, split_check}
use Rattle.loom_potential.proofs.Checks.{Passed}
use Rattle.loom_potential.proofs.inequalities.test_splits.Given as goal

abbrev pub invariant-loop-part : goal.invariant-loop-part
invariant-loop-part l = record {
  is_part : is_first_part l.mask l.part ≡ true;
  from : 1 ≤ l.part;
  within : l.part ≤ l.mask;
  passed : Passed (split_check l.topology (cell_at l.table) l.mask l.node.0) (is_first_part l.mask) l.part;
}

abbrev pub decreases-loop-part : goal.decreases-loop-part
decreases-loop-part l = l.mask - l.part
