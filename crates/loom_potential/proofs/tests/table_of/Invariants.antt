use Rattle.std.proofs.Common.{◌≡◌}
use Rattle.loom_potential.proofs.tests.table_of.Given as goal

abbrev pub invariant-loop-node : goal.invariant-loop-node
invariant-loop-node l = (l.table.masks ≡ 3) × (l.table.nodes ≡ 3)

abbrev pub invariant-loop-mask : goal.invariant-loop-mask
invariant-loop-mask l = (l.table.masks ≡ 3) × (l.table.nodes ≡ 3)
