-- What first fit says of a slot depends on the pins of earlier slots alone.
use Rattle.std.proofs.Common.{◌≡◌, ℕ, suc, ◌+◌, ◌-◌, ◌<◌, ◌≤◌, Bool, List, [], ◌∷◌, ◌++◌, length, get_or, Some, sym, subst, ap, ◌∙◌, arith, inl, inr}
use Rattle.std.specs.List.{All, slice_get}
use Rattle.std.proofs.lemmas.Option.{same_Some, slice_get-get_or}
use Rattle.std.proofs.lemmas.Bool.{cases_eq}
use Rattle.std.proofs.lemmas.List.Elements.{All-get_or}
use Rattle.loom_rows.proofs.Conditions.{slice_get-append_left}
use Rattle.loom_rows.proofs.Made.{slice_get-append_cases}
use Rattle.loom_rows.specs.Condition.{value}
use Rattle.loom_rows.specs.Meet.{Meet}
use Rattle.loom_pins.specs.declared.slot.Slot.{Slot}
use Rattle.loom_pins.specs.declared.slot.CouplerPins.{CouplerPins}
use Rattle.loom_pins.specs.FirstFit.{Holds, IsTaken, IsFree, IsFirstFit, AreFirstFit}
use Rattle.loom_pins.specs.Holders.{ArePassed}

-- the first n pins of one list are those of the other
abbrev pub Agree : List ℕ → List ℕ → ℕ → Type 0
Agree pins others n = (at pin : ℕ) → at < n → slice_get pins at ≡ Some pin → slice_get others at ≡ Some pin

pub agree-longer : (pins more : List ℕ) → Agree pins (pins ++ more) (length pins)
agree-longer pins more at pin below has = slice_get-append_left pins more at below ∙ has

pub agree-shorter : (pins more : List ℕ) → Agree (pins ++ more) pins (length pins)
agree-shorter pins more at pin below has = sym (slice_get-append_left pins more at below) ∙ has

pub agree-less : (pins others : List ℕ) (n k : ℕ) → k ≤ n → Agree pins others n → Agree pins others k
agree-less pins others n k le agree at pin below has = agree at pin (omega arith) has

pub holds-along : (slots : List Slot) (pins others : List ℕ) (n coupler pin at : ℕ) (slot : Slot) → Agree pins others n → at < n
    → Holds slots pins coupler pin at slot → Holds slots others coupler pin at slot
holds-along slots pins others n coupler pin at slot agree below h =
    record { stands = h.stands; of_coupler = h.of_coupler; has = agree at pin below h.has }

taken-along : (slots : List Slot) (pins others : List ℕ) (at : ℕ) (slot : Slot) (pin : ℕ) → Agree pins others at
    → IsTaken slots pins at slot pin → IsTaken slots others at slot pin
taken-along slots pins others at slot pin agree t = record {
  earlier = t.earlier;
  before = t.before;
  holder = t.holder;
  holds = holds-along slots pins others at slot.coupler.0 pin t.earlier t.holder agree t.before t.holds;
  together = t.together;
}

pub free-along : (coupler : CouplerPins) (slots : List Slot) (pins others : List ℕ) (at : ℕ) (slot : Slot) (pin : ℕ) → Agree others pins at
    → IsFree coupler slots pins at slot pin → IsFree coupler slots others at slot pin
free-along coupler slots pins others at slot pin agree f = record {
  from_one = f.from_one;
  within = f.within;
  open_to_all = f.open_to_all;
  untaken = λ t. f.untaken (taken-along slots others pins at slot pin agree t);
}

fit-along : (coupler : CouplerPins) (slots : List Slot) (pins others : List ℕ) (at : ℕ) (slot : Slot) (pin : ℕ)
    → Agree pins others at → Agree others pins at
    → IsFirstFit coupler slots pins at slot pin → IsFirstFit coupler slots others at slot pin
fit-along coupler slots pins others at slot pin there back fit = record {
  free = free-along coupler slots pins others at slot pin back fit.free;
  least = λ other free. fit.least other (free-along coupler slots others pins at slot other there free);
}

-- one more slot has the pin that first fit gives
pub fitted-push : (couplers : List CouplerPins) (slots : List Slot) (pins : List ℕ) (last : ℕ) (next : Slot) (its : CouplerPins)
    → AreFirstFit couplers slots pins → slice_get slots (length pins) ≡ Some next → slice_get couplers next.coupler.0 ≡ Some its
    → IsFirstFit its slots pins (length pins) next last → AreFirstFit couplers slots (pins ++ last ∷ [])
fitted-push couplers slots pins last next its fitted stands_next is_its fit = λ at pin slot coupler has stands is.
    elim (slice_get-append_cases pins last pin at has) [
      | inl old ↦
          let le : at ≤ length pins = omega (arith, old.0) in
          fit-along coupler slots pins (pins ++ last ∷ []) at slot pin
          (agree-less pins (pins ++ last ∷ []) (length pins) at le (agree-longer pins (last ∷ [])))
          (agree-less (pins ++ last ∷ []) pins (length pins) at le (agree-shorter pins (last ∷ [])))
          (fitted at pin slot coupler old.1 stands is)
      | inr new ↦
          let P = λ (k : ℕ). slice_get slots k ≡ Some slot in
          let here : slice_get slots (length pins) ≡ Some slot = subst P new.0 stands in
          let same : next ≡ slot = same_Some next slot (sym stands_next ∙ here) in
          let Q = λ (s : Slot). slice_get couplers s.coupler.0 ≡ Some its in
          let its_here : its ≡ coupler = same_Some its coupler (sym (subst Q same is_its) ∙ is) in
          let F = λ (c : CouplerPins). IsFirstFit c slots pins (length pins) next last in
          let G = λ (s : Slot). IsFirstFit coupler slots pins (length pins) s last in
          let H = λ (p : ℕ). IsFirstFit coupler slots pins (length pins) slot p in
          let I = λ (k : ℕ). IsFirstFit coupler slots (pins ++ last ∷ []) k slot pin in
          let fits : IsFirstFit coupler slots pins (length pins) slot pin = subst H new.1 (subst G same (subst F its_here fit)) in
          subst I (sym new.0)
          (fit-along coupler slots pins (pins ++ last ∷ []) (length pins) slot pin (agree-longer pins (last ∷ [])) (agree-shorter pins (last ∷ [])) fits)
    ]

-- where the slot before is of the same coupler and always used with this one, there is no free pin before its own
pub passed-before : (coupler : CouplerPins) (slots : List Slot) (pins : List ℕ) (last pin : ℕ) (before slot : Slot)
    → IsFirstFit coupler slots pins last before pin → before.coupler.0 ≡ slot.coupler.0
    → ((c : ℕ → Bool) → value before.usage c ≡ value slot.usage c) → ArePassed coupler slots pins (suc last) slot pin
passed-before coupler slots pins last pin before slot fit same_coupler same other free =
    fit.least other (record {
      from_one = free.from_one;
      within = free.within;
      open_to_all = free.open_to_all;
      untaken = λ t. free.untaken (record {
        earlier = t.earlier;
        before = omega (arith, t.before);
        holder = t.holder;
        holds = record { stands = t.holds.stands; of_coupler = t.holds.of_coupler ∙ same_coupler; has = t.holds.has };
        together = let m : Meet (value t.holder.usage) (value before.usage) = t.together in (m.0, m.1, sym (same m.0) ∙ m.2);
      });
    })

-- what is passed for the first slots is passed for more of them
pub passed-later : (coupler : CouplerPins) (slots : List Slot) (pins : List ℕ) (k n : ℕ) (slot : Slot) (first : ℕ) → k ≤ n
    → ArePassed coupler slots pins k slot first → ArePassed coupler slots pins n slot first
passed-later coupler slots pins k n slot first le passed pin free =
    passed pin (record {
      from_one = free.from_one;
      within = free.within;
      open_to_all = free.open_to_all;
      untaken = λ t. free.untaken (record { earlier = t.earlier; before = omega (arith, t.before, le); holder = t.holder; holds = t.holds; together = t.together });
    })

-- a slot that has a pin has the one that first fit gives
pub slot-fits : (couplers : List CouplerPins) (slots : List Slot) (pins : List ℕ) (at : ℕ) (read : List ℕ) (slot nobody : Slot) (coupler : CouplerPins)
    → AreFirstFit couplers slots pins → at < length pins → length pins ≤ length slots → read ≡ pins
    → (get_or slots at nobody).coupler.0 ≡ slot.coupler.0 → slice_get couplers slot.coupler.0 ≡ Some coupler
    → IsFirstFit coupler slots pins at (get_or slots at nobody) (get_or read at 0)
slot-fits couplers slots pins at read slot nobody coupler fitted below within same same_coupler is =
    let P = λ (xs : List ℕ). slice_get xs at ≡ Some (get_or read at 0) in
    let Q = λ (k : ℕ). slice_get couplers k ≡ Some coupler in
    fitted at (get_or read at 0) (get_or slots at nobody) coupler
    (subst P same (slice_get-get_or read at 0 (omega (arith, below, ap length same))))
    (slice_get-get_or slots at nobody (omega (arith, below, within)))
    (subst Q (sym same_coupler) is)

-- a pin that isn't free is passed
pub passed-next : (coupler : CouplerPins) (slots : List Slot) (pins : List ℕ) (at : ℕ) (slot : Slot) (pin : ℕ)
    → ArePassed coupler slots pins at slot pin → (IsFree coupler slots pins at slot pin → ⊥) → ArePassed coupler slots pins at slot (pin + 1)
passed-next coupler slots pins at slot pin passed kept other free =
    elim (cases_eq pin other) [
      | inl e ↦ absurd (kept (subst (λ (k : ℕ). IsFree coupler slots pins at slot k) (sym e) free))
      | inr ne ↦ omega (arith, passed other free, ne)
    ]

-- the coupler that stands at a slot's number
pub coupler-read : (couplers : List CouplerPins) (slots : List Slot) (at : ℕ) (nobody : Slot) (coupler : CouplerPins) → at < length slots
    → All (λ slot. slot.coupler.0 < length couplers) slots → coupler ≡ get_or couplers (get_or slots at nobody).coupler.0 coupler
    → slice_get couplers (get_or slots at nobody).coupler.0 ≡ Some coupler
coupler-read couplers slots at nobody coupler lt all is =
    let P = λ (slot : Slot). slot.coupler.0 < length couplers in
    slice_get-get_or couplers (get_or slots at nobody).coupler.0 coupler (All-get_or P slots at nobody lt all)
    ∙ ap (λ (c : CouplerPins). Some c) (sym is)
