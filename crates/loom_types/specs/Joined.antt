use Rattle.std.specs.Prelude.{ℕ, List, Bool, ◌≡◌, ◌≢◌, ◌⊎◌, ◌↔◌, Contains, filter}
use Rattle.loom_types.specs.declared.wire.End.{End}
use Rattle.loom_types.specs.declared.wire.End.TheVariants.{Cavity, Splice, Pin}
use Rattle.loom_types.specs.declared.wire.Wire.{Wire}

-- an end in the whole harness: a splice belongs to its wire's net
pub data HarnessEnd : Type 0 where
  AtCavity : (cavity : ℕ) → HarnessEnd
  AtSplice : (net node ordinal : ℕ) → HarnessEnd
  AtSide : (coupler pin side : ℕ) → HarnessEnd

abbrev pub harness_end : ℕ → End → HarnessEnd
harness_end net (Cavity cavity) = AtCavity cavity.0
harness_end net (Splice node ordinal) = AtSplice net node.0 ordinal
harness_end net (Pin coupler pin side) = AtSide coupler.0 pin side

-- the two ends of a wire
abbrev pub start_of : Wire → HarnessEnd
start_of w = harness_end w.net.0 w.from

abbrev pub finish_of : Wire → HarnessEnd
finish_of w = harness_end w.net.0 w.to

-- some wire of the list ends there
abbrev pub EndsAt : List Wire → HarnessEnd → Type 0
EndsAt ws e = (w : Wire) × Contains ws w × ((start_of w ≡ e) ⊎ (finish_of w ≡ e))

-- the two ends of one wire are linked, and so are sides 1 and 2 of one pin where wires end at both; a side of another number is linked to none
pub data Linked (live : List Wire) : HarnessEnd → HarnessEnd → Type 0 where
  along : (w : Wire) → Contains live w → Linked live (start_of w) (finish_of w)
  back : (w : Wire) → Contains live w → Linked live (finish_of w) (start_of w)
  across : (coupler pin : ℕ) → EndsAt live (AtSide coupler pin 1) → EndsAt live (AtSide coupler pin 2)
      → Linked live (AtSide coupler pin 1) (AtSide coupler pin 2)
  across_back : (coupler pin : ℕ) → EndsAt live (AtSide coupler pin 1) → EndsAt live (AtSide coupler pin 2)
      → Linked live (AtSide coupler pin 2) (AtSide coupler pin 1)

-- a chain of links, of any length
pub data Chain {A : Type 0} (R : A → A → Type 0) : A → A → Type 0 where
  here : {p : A} → Chain R p p
  next : {p q r : A} → R p q → Chain R q r → Chain R p r

-- a chain of links over wires of any nets leads from one cavity to the other
abbrev pub AreJoined : List Wire → ℕ → ℕ → Type 0
AreJoined live a b = Chain (Linked live) (AtCavity a) (AtCavity b)

-- the wires whose condition, by its row's number, holds
abbrev pub live_of : (ℕ → Bool) → List Wire → List Wire
live_of value wires = filter (λ w. value w.row) wires

-- the wires join two different cavities exactly when one net needs both, where `need` gives the cavities that each net needs
abbrev pub JoinNeeds : (ℕ → List ℕ) → List Wire → Type 0
JoinNeeds need live = (a b : ℕ) → a ≢ b →
    AreJoined live a b ↔ ((net : ℕ) × Contains (need net) a × Contains (need net) b)
