-- Wires end at pins that their couplers have and that aren't reserved, and wires of different nets that are used together end at different ones.
use Rattle.std.specs.Prelude.{ℕ, Some, ◌≡◌, ◌≢◌, ◌<◌, ◌⊎◌, slice_get}
use Rattle.loom_project.specs.declared.draft.Draft.{Draft}
use Rattle.loom_types.specs.declared.plan.Plan.{Plan}
use Rattle.loom_types.specs.declared.wire.Wire.{Wire}
use Rattle.loom_types.specs.Slots.{EndsAtPin}
use Rattle.loom_active.specs.RightPlan.{IsFreePin}
use Rattle.loom_active.specs.SetWires.{RowsMeet}
use Rattle.loom_audit.specs.declared.spot.PlanPart.TheVariants.{Wires}
use Rattle.loom_audit.specs.declared.spot.Spot.{Spot}
use Rattle.loom_audit.specs.FirstFailure.{Each, IsFirstWithout}
use Rattle.loom_audit.specs.Spots.{line_at}

-- each pin at which a wire ends is one of its coupler's that isn't reserved
abbrev pub EndsAtFreePins : Draft → Wire → Type 0
EndsAtFreePins draft w = (coupler pin : ℕ) → EndsAtPin w coupler pin → IsFreePin draft coupler pin

-- two wires of different nets, whose conditions hold together under some choice, end at one pin, on whichever sides
pub record MeetAtPin (plan : Plan) (w v : Wire) : Type 0 where
  pub different : w.net.0 ≢ v.net.0
  pub together : RowsMeet plan w.row v.row
  pub coupler : ℕ
  pub pin : ℕ
  pub one : EndsAtPin w coupler pin
  pub other : EndsAtPin v coupler pin

-- so do the wires at two positions, the lesser first
pub record IsPinClash (plan : Plan) (i j : ℕ) : Type 0 where
  pub rising : i < j
  pub w : Wire
  pub v : Wire
  pub first : slice_get plan.wires i ≡ Some w
  pub second : slice_get plan.wires j ≡ Some v
  pub meet : MeetAtPin plan w v

abbrev pub ArePinsFree : Draft → Plan → Type 0
ArePinsFree draft plan = Each (λ i w. EndsAtFreePins draft w) plan.wires

pub record ArePinsApart (draft : Draft) (plan : Plan) : Type 0 where
  pub free : ArePinsFree draft plan
  pub apart : (i j : ℕ) → IsPinClash plan i j → ⊥

-- pairs of positions are ordered by the first, then by the second
abbrev pub IsPairBefore : ℕ → ℕ → ℕ → ℕ → Type 0
IsPairBefore i j k l = (i < k) ⊎ ((i ≡ k) × (j < l))

-- the first wire that ends at a pin that isn't free; or else the first two that meet at a pin
pub data PinsFailAt (draft : Draft) (plan : Plan) : Spot → Type 0 where
  wire : (at : ℕ) → IsFirstWithout (λ i w. EndsAtFreePins draft w) plan.wires at → PinsFailAt draft plan (line_at Wires at)
  wires : (i j : ℕ) → ArePinsFree draft plan → IsPinClash plan i j
      → ((k l : ℕ) → IsPinClash plan k l → IsPairBefore k l i j → ⊥)
      → PinsFailAt draft plan (record { part = Wires; a = i; b = j; c = 0 })
