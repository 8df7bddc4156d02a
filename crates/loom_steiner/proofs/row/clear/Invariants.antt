use Rattle.std.proofs.Common.{ℕ, ◌≡◌, ◌<◌, slice_index}
use Rattle.loom_steiner.specs.declared.ways.TheConstants.{NO_TREE}
use Rattle.loom_steiner.proofs.row.clear.Given as goal

abbrev pub invariant-loop-number : goal.invariant-loop-number
invariant-loop-number l = (v : ℕ) → v < l.number-index → slice_index l.row v ≡ NO_TREE
