use Rattle.std.proofs.Common.{ℕ, IsTrue, ◌≡◌, ◌<◌, Ok}
use Rattle.loom_topology.specs.Table.{cell_at}
use Rattle.loom_potential.specs.FirstBreak.{split_check}
use Rattle.loom_potential.proofs.inequalities.all_split_by.Given as goal

abbrev pub invariant-loop-node : goal.invariant-loop-node
invariant-loop-node l = IsTrue l.holds → (v : ℕ) → v < l.node → split_check l.topology (cell_at l.table) l.mask v l.part ≡ Ok tt
