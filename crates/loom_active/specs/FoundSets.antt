use Rattle.std.specs.Prelude.{ℕ, List, Bool, ◌≡◌, ◌<◌, ◌↔◌, nat_le, count_ones, if◌then◌else◌, Option, Some, None, IsTrue, Contains, AllPairs}
use Rattle.loom_base.specs.declared.positions.NetNo.{NetNo}
use Rattle.loom_project.specs.declared.draft.Draft.{Draft}
use Rattle.loom_rows.specs.Condition.{value}
use Rattle.loom_rows.specs.Table.{Table, Has}
use Rattle.loom_active.specs.declared.live.LiveSet.{LiveSet}
use Rattle.loom_active.specs.declared.patterns.Pattern.{Pattern}
use Rattle.loom_active.specs.LiveSets.{IsLiveUnder, IsLiveSet, IsListedBefore}

abbrev pub ComesBefore : LiveSet → LiveSet → Type 0
ComesBefore one other = IsListedBefore one.net.0 one.mask other.net.0 other.mask

-- the list holds each live set once, by net, then mask, with a condition of the table that holds exactly where the set is live
pub record AreLiveSets (draft : Draft) (t : Table) (sets : List LiveSet) : Type 0 where
  pub order : AllPairs ComesBefore sets
  pub each : (set : LiveSet) → Contains sets set → IsLiveSet draft set.net.0 set.mask
  pub all : (net mask : ℕ) → IsLiveSet draft net mask → (set : LiveSet) × Contains sets set × (set.net.0 ≡ net) × (set.mask ≡ mask)
  pub has : (set : LiveSet) → Contains sets set → Has t set.cond
  pub condition : (set : LiveSet) → Contains sets set → (choice : ℕ → Bool)
      → IsTrue (value set.cond choice) ↔ IsLiveUnder draft choice set.net.0 set.mask

-- the same of the first n nets
pub record AreLiveSetsBelow (draft : Draft) (t : Table) (n : ℕ) (sets : List LiveSet) : Type 0 where
  pub order : AllPairs ComesBefore sets
  pub each : (set : LiveSet) → Contains sets set → (set.net.0 < n) × IsLiveSet draft set.net.0 set.mask
  pub all : (net mask : ℕ) → net < n → IsLiveSet draft net mask → (set : LiveSet) × Contains sets set × (set.net.0 ≡ net) × (set.mask ≡ mask)
  pub has : (set : LiveSet) → Contains sets set → Has t set.cond
  pub condition : (set : LiveSet) → Contains sets set → (choice : ℕ → Bool)
      → IsTrue (value set.cond choice) ↔ IsLiveUnder draft choice set.net.0 set.mask

-- the set of a pattern with at least two bits
abbrev pub set_of : NetNo → Pattern → Option LiveSet
set_of net p = if nat_le 2 (count_ones p.mask) then Some (record { net = net; mask = p.mask; cond = p.cond }) else None
