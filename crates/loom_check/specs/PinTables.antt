-- The wires that end at each pin, and the first of them that meets a wire of another net there.
use Rattle.std.specs.Prelude.{ℕ, List, [], ◌∷◌, ◌++◌, Bool, true, false, Option, None, Some, ◌≡◌, ◌≢◌, ◌<◌, ◌&&◌, ◌||◌, IsTrue, Contains, min, slice_get, if◌then◌else◌}
use Rattle.std.specs.Option.{unwrap_or}
use Rattle.std.specs.HashMap.{HashMap, get}
use Rattle.std.specs.HashSet.{HashSet, contains}
use Rattle.std.specs.declared.hash.FoldHasher.{FoldHasher}
use Rattle.std.specs.declared.hash.BuildHasherDefault.{BuildHasherDefault}
use Rattle.loom_types.specs.declared.plan.Plan.{Plan}
use Rattle.loom_types.specs.declared.wire.End.{End}
use Rattle.loom_types.specs.declared.wire.End.TheVariants.{Cavity, Splice, Pin}
use Rattle.loom_types.specs.declared.wire.Wire.{Wire}
use Rattle.loom_active.specs.SetWires.{RowsMeet}
use Rattle.loom_audit.specs.Grouping.{is_same_pair}
use Rattle.loom_audit.specs.PinRule.{IsPinClash, IsPairBefore}
use Rattle.loom_check.specs.MetParts.{ArePlaces}

-- the coupler and the pin at which an end lies
abbrev pub pin_of : End → Option (ℕ × ℕ)
pin_of (Cavity cavity) = None
pin_of (Splice node ordinal) = None
pin_of (Pin coupler pin side) = Some (coupler.0, pin)

-- whether it is this pin
abbrev pub is_at : Option (ℕ × ℕ) → ℕ × ℕ → Bool
is_at None pin = false
is_at (Some own) pin = is_same_pair own pin

-- whether a wire ends at a pin, on whichever side
abbrev pub ends_at : Wire → ℕ × ℕ → Bool
ends_at w pin = is_at (pin_of w.from) pin || is_at (pin_of w.to) pin

-- by pin, nets
abbrev pub PinNets : Type 0
PinNets = HashMap (ℕ × ℕ) ℕ (BuildHasherDefault FoldHasher)

-- pins
abbrev pub PinSet : Type 0
PinSet = HashSet (ℕ × ℕ) (BuildHasherDefault FoldHasher)

-- by pin, positions of wires
abbrev pub PinTable : Type 0
PinTable = HashMap (ℕ × ℕ) (List ℕ) (BuildHasherDefault FoldHasher)

-- those of a pin; none where the table has no such pin
abbrev pub positions_at : PinTable → ℕ × ℕ → List ℕ
positions_at table pin = unwrap_or (get is_same_pair table pin) []

-- the table has the net of the wire at each pin at which it ends, but those that are known to be shared
abbrev pub IsNoted : PinNets → PinSet → Wire → Type 0
IsNoted nets shared w =
    (pin : ℕ × ℕ) → ends_at w pin ≡ true → contains is_same_pair shared pin ≡ false → get is_same_pair nets pin ≡ Some w.net.0

-- a pin that isn't known to be shared wasn't so before, and has its net still
abbrev pub AreKept : PinNets → PinSet → PinNets → PinSet → Type 0
AreKept nets shared new_nets new_shared =
    (pin : ℕ × ℕ) → contains is_same_pair new_shared pin ≡ false
    → (contains is_same_pair shared pin ≡ false)
    × ((net : ℕ) → get is_same_pair nets pin ≡ Some net → get is_same_pair new_nets pin ≡ Some net)

-- such a pin of the end has this net
abbrev pub IsEndNoted : Option (ℕ × ℕ) → ℕ → PinNets → PinSet → Type 0
IsEndNoted own net nets shared =
    (pin : ℕ × ℕ) → is_at own pin ≡ true → contains is_same_pair shared pin ≡ false → get is_same_pair nets pin ≡ Some net

-- where wires of different nets end at one pin, the pin is shared
abbrev pub AreShared : List Wire → (ℕ × ℕ → Bool) → Type 0
AreShared wires is_shared =
    (i j : ℕ) (w v : Wire) (pin : ℕ × ℕ) → slice_get wires i ≡ Some w → slice_get wires j ≡ Some v
    → ends_at w pin ≡ true → ends_at v pin ≡ true → w.net.0 ≢ v.net.0 → is_shared pin ≡ true

-- with one more position, where this holds
abbrev pub with_place : Bool → ℕ → List ℕ → List ℕ
with_place added position positions = if added then positions ++ position ∷ [] else positions

-- the position was added at the pin of an end, if it is shared
abbrev pub IsPlaced : Option (ℕ × ℕ) → PinSet → ℕ → PinTable → PinTable → Type 0
IsPlaced own shared position old new =
    (pin : ℕ × ℕ) → positions_at new pin ≡ with_place (is_at own pin && contains is_same_pair shared pin) position (positions_at old pin)

-- the position was added at the shared pins at which the wire ends
abbrev pub IsWirePlaced : Wire → PinSet → ℕ → PinTable → PinTable → Type 0
IsWirePlaced w shared position old new =
    (pin : ℕ × ℕ) → positions_at new pin ≡ with_place (ends_at w pin && contains is_same_pair shared pin) position (positions_at old pin)

-- the wire ends at the pin, which is shared
abbrev pub EndsAtShared : (ℕ × ℕ → Bool) → ℕ × ℕ → Wire → Type 0
EndsAtShared is_shared pin w = IsTrue (ends_at w pin && is_shared pin)

-- for each shared pin, the table has the positions of the wires that end there
abbrev pub KnowsEnds : (ℕ × ℕ → Bool) → List Wire → PinTable → Type 0
KnowsEnds is_shared wires table = (pin : ℕ × ℕ) → ArePlaces (EndsAtShared is_shared pin) wires (positions_at table pin)

-- the table has the positions of the wires that end at a pin, if wires of different nets do
pub record FindsShared (wires : List Wire) (table : PinTable) : Type 0 where
  pub is_shared : ℕ × ℕ → Bool
  pub shared : AreShared wires is_shared
  pub known : KnowsEnds is_shared wires table

-- the least number with a property; none where no number has it
abbrev pub IsLeast : (ℕ → Type 0) → Option ℕ → Type 0
IsLeast P None = (n : ℕ) → P n → ⊥
IsLeast P (Some n) = P n × ((k : ℕ) → k < n → P k → ⊥)

-- the lesser of two numbers, of which either may be missing
abbrev pub lesser_of : Option ℕ → Option ℕ → Option ℕ
lesser_of None other = other
lesser_of (Some a) None = Some a
lesser_of (Some a) (Some b) = Some (min a b)

-- the wire at position j comes after position i, is of another net than w, and its row meets w's
pub record IsRival (plan : Plan) (i : ℕ) (w : Wire) (j : ℕ) : Type 0 where
  pub later : i < j
  pub v : Wire
  pub stands : slice_get plan.wires j ≡ Some v
  pub different : w.net.0 ≢ v.net.0
  pub together : RowsMeet plan w.row v.row

-- such a wire is among these
abbrev pub IsRivalAmong : Plan → ℕ → Wire → List ℕ → ℕ → Type 0
IsRivalAmong plan i w positions j = Contains positions j × IsRival plan i w j

-- such a wire is known at the pin of an end
pub record IsRivalAt (plan : Plan) (table : PinTable) (i : ℕ) (w : Wire) (own : Option (ℕ × ℕ)) (j : ℕ) : Type 0 where
  pub pin : ℕ × ℕ
  pub at_pin : is_at own pin ≡ true
  pub among : IsRivalAmong plan i w (positions_at table pin) j

-- the first two wires that meet at a pin
pub record IsFirstClash (plan : Plan) (i j : ℕ) : Type 0 where
  pub clash : IsPinClash plan i j
  pub none_before : (k l : ℕ) → IsPinClash plan k l → IsPairBefore k l i j → ⊥
