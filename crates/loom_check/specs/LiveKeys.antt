-- Live sets as they were found, by their net and mask.
use Rattle.std.specs.Prelude.{ℕ, Bool, ◌↔◌, IsTrue}
use Rattle.loom_project.specs.declared.draft.Draft.{Draft}
use Rattle.loom_rows.specs.Condition.{value}
use Rattle.loom_active.specs.declared.live.LiveSet.{LiveSet}
use Rattle.loom_active.specs.LiveSets.{IsLiveUnder}

-- a set's net and mask
abbrev pub key_of : LiveSet → ℕ × ℕ
key_of set = (set.net.0, set.mask)

-- the set's condition holds exactly where the set is live
abbrev pub HoldsWhereLive : Draft → LiveSet → Type 0
HoldsWhereLive draft set = (choice : ℕ → Bool) → IsTrue (value set.cond choice) ↔ IsLiveUnder draft choice set.net.0 set.mask
