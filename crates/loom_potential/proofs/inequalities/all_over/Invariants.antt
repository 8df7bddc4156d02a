use Rattle.std.proofs.Common.{ℕ, ◌<◌}
use Rattle.loom_topology.specs.Table.{cell_at}
use Rattle.loom_topology.specs.Ways.{way_at}
use Rattle.loom_potential.specs.Ways.{HoldsOver}
use Rattle.loom_potential.proofs.inequalities.all_over.Given as goal

abbrev pub invariant-loop-way : goal.invariant-loop-way
invariant-loop-way l = (k : ℕ) → k < l.way-index → HoldsOver (cell_at l.table) l.mask (way_at l.ways k)
