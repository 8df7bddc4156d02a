use Rattle.std.specs.Prelude.{ℕ, Bool, true, false, not, List, filter, map, position, length, slice_get, Option, Some, Result, Ok, Err, ◌≡◌}
use Rattle.std.specs.List.{range_with_len}
use Rattle.std.specs.Option.{option_map_or}
use Rattle.loom_formula.specs.declared.formula.Formula.{Formula}
use Rattle.loom_formula.specs.Formula.{holds_of}
use Rattle.loom_formula.specs.RowList.{value_of}
use Rattle.loom_types.specs.declared.plan.Plan.{Plan}
use Rattle.loom_types.specs.Joined.{live_of}
use Rattle.loom_extract.specs.declared.variant.Variant.{Variant}
use Rattle.loom_extract.specs.declared.stop.ExtractStop.{ExtractStop}
use Rattle.loom_extract.specs.declared.stop.ExtractStop.TheVariants.{BrokenRule, NoMemory}

-- the wire at a position is live under a choice: the plan's rows lead from the number of its condition to true
abbrev pub is_live_at : Plan → (ℕ → Bool) → ℕ → Bool
is_live_at plan choice at = option_map_or (λ w. value_of plan.rows choice w.row) (slice_get plan.wires at) false

-- the positions of the wires that are live under a choice, rising
abbrev pub live_positions : Plan → (ℕ → Bool) → List ℕ
live_positions plan choice = filter (is_live_at plan choice) (range_with_len 0 (length plan.wires))

-- the position of the first rule that is false under a choice
abbrev pub first_false : List Formula → List (List ℕ) → (ℕ → Bool) → Option ℕ
first_false rules options choice = position (λ rule. not (holds_of rule options choice)) rules

-- the positions of the wires that a choice makes live, or the first rule that it breaks
abbrev pub variant_of : Plan → List (List ℕ) → List Formula → (ℕ → Bool) → Result (List ℕ) ExtractStop
variant_of plan options rules choice =
    option_map_or (λ rule. Err (BrokenRule rule)) (first_false rules options choice) (Ok (live_positions plan choice))

-- a call gave these positions or this stop, unless memory ran out
abbrev pub GivesVariant : Result Variant ExtractStop → Result (List ℕ) ExtractStop → Type 0
GivesVariant (Ok variant) made = made ≡ Ok variant.numbers
GivesVariant (Err (BrokenRule rule)) made = made ≡ Err (BrokenRule rule)
GivesVariant (Err NoMemory) made = Unit {0}

-- there is a variant where the choice is valid, and a broken rule where it isn't, unless memory ran out
abbrev pub TellsValidity : Result Variant ExtractStop → Bool → Type 0
TellsValidity (Ok variant) valid = valid ≡ true
TellsValidity (Err (BrokenRule rule)) valid = valid ≡ false
TellsValidity (Err NoMemory) valid = Unit {0}

-- the wires at the positions, in their order, are the plan's live wires
abbrev pub TakesLiveWires : Plan → (ℕ → Bool) → List ℕ → Type 0
TakesLiveWires plan choice positions =
    map (slice_get plan.wires) positions ≡ map Some (live_of (value_of plan.rows choice) plan.wires)
