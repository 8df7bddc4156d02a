-- The wires of a printed set: those of its net whose conditions hold together with the set's under some choice.
use Rattle.std.specs.Prelude.{ℕ, List, Bool, Some, ◌≡◌, ◌<◌, length, filter, slice_get, Contains}
use Rattle.std.specs.List.{filter_map}
use Rattle.loom_project.specs.declared.draft.Draft.{Draft}
use Rattle.loom_project.specs.Project.{cavities_of}
use Rattle.loom_types.specs.declared.plan.Plan.{Plan}
use Rattle.loom_types.specs.declared.plan.SetLine.{SetLine}
use Rattle.loom_types.specs.declared.wire.Wire.{Wire}
use Rattle.loom_types.specs.SetMask.{IsSet}
use Rattle.loom_active.specs.SetWires.{PicksWiresOf}

-- the wires are exactly the set's, in the plan's order
pub record AreWiresOf (plan : Plan) (set : SetLine) (wires : List Wire) : Type 0 where
  pub is_its : Wire → Bool
  pub its : PicksWiresOf plan set is_its
  pub picked : wires ≡ filter is_its plan.wires

-- the wires at positions of a plan
abbrev pub wires_at : Plan → List ℕ → List Wire
wires_at plan positions = filter_map (slice_get plan.wires) positions

-- for each printed set, in order, the positions of its wires
pub record AreMembers (plan : Plan) (members : List (List ℕ)) : Type 0 where
  pub counted : length members ≡ length plan.sets
  pub each : (i : ℕ) (set : SetLine) (positions : List ℕ) → slice_get plan.sets i ≡ Some set → slice_get members i ≡ Some positions
      → AreWiresOf plan set (wires_at plan positions)

-- each printed set is one of at least two of a net's cavities
abbrev pub HasSets : Draft → Plan → Type 0
HasSets draft plan = (set : SetLine) → Contains plan.sets set → (set.net.0 < length draft.nets) × IsSet (cavities_of draft set.net.0) set.mask

-- each printed wire is one of a net
abbrev pub HasNets : Draft → Plan → Type 0
HasNets draft plan = (w : Wire) → Contains plan.wires w → w.net.0 < length draft.nets
