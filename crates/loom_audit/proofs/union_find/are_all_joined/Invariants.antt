use Rattle.std.proofs.Common.{ℕ, ◌≡◌, ◌<◌, length, get_or}
use Rattle.loom_audit.specs.Classes.{AreParents, IsForestOf}
use Rattle.loom_audit.proofs.union_find.are_all_joined.Given as goal

abbrev pub invariant-loop-link : goal.invariant-loop-link
invariant-loop-link l =
    (length l.parents.items ≡ length l.fn.parents.items)
    × AreParents l.parents.items
    × ((classes : ℕ → ℕ) → IsForestOf classes l.fn.parents.items
    → IsForestOf classes l.parents.items × (classes (get_or l.links 0 (0, 0)).0 ≡ l.hub)
    × ((k : ℕ) → k < l.link-index → classes (get_or l.links k (0, 0)).0 ≡ l.hub))
