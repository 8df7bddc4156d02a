use Rattle.std.proofs.Common.{◌≡◌, ◌-◌, ◌≤◌, ℕ, bit_and}
use Rattle.loom_topology.specs.Table.{cell_at}
use Rattle.loom_topology.specs.Ties.{Splits}
use Rattle.loom_layout.proofs.rule.least_split.Given as goal

abbrev pub invariant-loop-rest : goal.invariant-loop-rest
invariant-loop-rest l = record {
  within : bit_and l.rest (bit_and l.mask (l.mask - 1)) ≡ l.rest;
  none : (part : ℕ) → Splits l.topology (cell_at l.table) l.mask l.node.0 part → l.mask - l.rest ≤ part;
}

abbrev pub decreases-loop-rest : goal.decreases-loop-rest
decreases-loop-rest l = l.rest
