use Rattle.std.proofs.Common.{ℕ, ◌≡◌, ◌<◌, length}
use Rattle.loom_audit.specs.Classes.{AreParents, IsForestOf}
use Rattle.loom_audit.proofs.union_find.root.Given as goal

abbrev pub invariant-loop-parents : goal.invariant-loop-parents
invariant-loop-parents l =
    (length l.parents ≡ length l.fn.parents)
    × (l.at < length l.fn.parents)
    × AreParents l.parents
    × ((classes : ℕ → ℕ) → IsForestOf classes l.fn.parents → IsForestOf classes l.parents × (classes l.at ≡ classes l.fn.point))

abbrev pub decreases-loop-parents : goal.decreases-loop-parents
decreases-loop-parents l = l.at
