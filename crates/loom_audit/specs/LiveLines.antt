-- The printed sets are the live sets, in order, each with its condition.
use Rattle.std.specs.Prelude.{ℕ, List, Bool, ◌≡◌, ◌↔◌, IsTrue, AllPairs, Contains}
use Rattle.loom_formula.specs.RowList.{value_of}
use Rattle.loom_project.specs.declared.draft.Draft.{Draft}
use Rattle.loom_types.specs.declared.plan.Plan.{Plan}
use Rattle.loom_types.specs.declared.plan.SetLine.{SetLine}
use Rattle.loom_active.specs.LiveSets.{IsLiveUnder, IsLiveSet, IsListedBefore}
use Rattle.loom_audit.specs.declared.spot.PlanPart.TheVariants.{Sets}
use Rattle.loom_audit.specs.declared.spot.Spot.{Spot}
use Rattle.loom_audit.specs.FirstFailure.{Agree, DifferFirst}
use Rattle.loom_audit.specs.Spots.{line_at}

-- the live sets of a draft, each a net and a mask, in order
pub record AreLiveKeys (draft : Draft) (live : List (ℕ × ℕ)) : Type 0 where
  pub order : AllPairs (λ one other. IsListedBefore one.0 one.1 other.0 other.1) live
  pub each : (key : ℕ × ℕ) → Contains live key → IsLiveSet draft key.0 key.1
  pub all : (net mask : ℕ) → IsLiveSet draft net mask → Contains live (net, mask)

-- a line prints a live set: its net and mask, and a condition that holds exactly where the set is live
pub record IsPrintedSet (draft : Draft) (plan : Plan) (key : ℕ × ℕ) (set : SetLine) : Type 0 where
  pub net : set.net.0 ≡ key.0
  pub mask : set.mask ≡ key.1
  pub condition : (choice : ℕ → Bool) → IsTrue (value_of plan.rows choice set.row) ↔ IsLiveUnder draft choice key.0 key.1

pub record AreSetsLive (draft : Draft) (plan : Plan) : Type 0 where
  pub live : List (ℕ × ℕ)
  pub keys : AreLiveKeys draft live
  pub printed : Agree (IsPrintedSet draft plan) live plan.sets

-- the first line that differs, or the length of the shorter list
pub data SetsFailAt (draft : Draft) (plan : Plan) : Spot → Type 0 where
  set : (at : ℕ) (live : List (ℕ × ℕ)) → AreLiveKeys draft live
      → DifferFirst (IsPrintedSet draft plan) live plan.sets at → SetsFailAt draft plan (line_at Sets at)
