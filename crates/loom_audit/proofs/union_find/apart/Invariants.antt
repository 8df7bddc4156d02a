use Rattle.std.proofs.Common.{ℕ, ◌≡◌, ◌<◌, length, get_or}
use Rattle.loom_audit.proofs.union_find.apart.Given as goal

abbrev pub invariant-loop-point : goal.invariant-loop-point
invariant-loop-point l = (length l.parents.items ≡ l.point) × ((x : ℕ) → x < l.point → get_or l.parents.items x 0 ≡ x)
