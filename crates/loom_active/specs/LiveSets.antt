use Rattle.std.specs.Prelude.{ℕ, List, [], ◌∷◌, Bool, ◌≡◌, ◌<◌, ◌≤◌, ◌+◌, ◌*◌, ◌⊎◌, ◌↔◌, if◌then◌else◌, IsTrue, Contains, AllPairs, map, length}
use Rattle.loom_formula.specs.Formula.{holds_of}
use Rattle.loom_formula.specs.RowList.{value_of}
use Rattle.loom_project.specs.declared.draft.Draft.{Draft}
use Rattle.loom_project.specs.Project.{net_at}
use Rattle.loom_types.specs.declared.plan.Plan.{Plan}
use Rattle.loom_types.specs.declared.plan.SetLine.{SetLine}
use Rattle.loom_active.specs.Needs.{is_valid_for, need_of}

-- the number whose bits are these truth values, the first one's bit lowest
abbrev pub mask_of : List Bool → ℕ
mask_of [] = 0
mask_of (bit ∷ bits) = (if bit then 1 else 0) + 2 * mask_of bits

-- the mask of what a net needs under a choice: bit i is set where the formula of the net's terminal i holds
abbrev pub need_mask : Draft → (ℕ → Bool) → ℕ → ℕ
need_mask draft choice net = mask_of (map (λ terminal. holds_of terminal.when draft.options choice) (net_at draft net).terminals)

-- a set of a net is live under a choice where the choice is valid, and the net needs exactly this set, of at least two cavities
pub record IsLiveUnder (draft : Draft) (choice : ℕ → Bool) (net mask : ℕ) : Type 0 where
  pub valid : IsTrue (is_valid_for draft choice)
  pub needs : need_mask draft choice net ≡ mask
  pub some : 2 ≤ length (need_of draft choice net)

-- a live set of a net is live under some choice
abbrev pub IsLiveSet : Draft → ℕ → ℕ → Type 0
IsLiveSet draft net mask = (choice : ℕ → Bool) × IsLiveUnder draft choice net mask

-- sets are ordered by net, then mask
abbrev pub IsListedBefore : ℕ → ℕ → ℕ → ℕ → Type 0
IsListedBefore net mask other_net other_mask = (net < other_net) ⊎ ((net ≡ other_net) × (mask < other_mask))

abbrev pub IsSetBefore : SetLine → SetLine → Type 0
IsSetBefore one other = IsListedBefore one.net.0 one.mask other.net.0 other.mask

-- a plan prints each live set once, in order, with a condition that holds exactly where the set is live
pub record PrintsLiveSets (draft : Draft) (plan : Plan) : Type 0 where
  pub order : AllPairs IsSetBefore plan.sets
  pub each : (set : SetLine) → Contains plan.sets set → IsLiveSet draft set.net.0 set.mask
  pub all : (net mask : ℕ) → IsLiveSet draft net mask → (set : SetLine) × Contains plan.sets set × (set.net.0 ≡ net) × (set.mask ≡ mask)
  pub condition : (set : SetLine) → Contains plan.sets set → (choice : ℕ → Bool)
      → IsTrue (value_of plan.rows choice set.row) ↔ IsLiveUnder draft choice set.net.0 set.mask
