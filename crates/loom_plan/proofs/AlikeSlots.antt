-- First fit depends on the slots' couplers and on when they are used.
use Rattle.std.proofs.Common.{◌≡◌, ℕ, List, length, Some, sym, subst, ◌∙◌}
use Rattle.std.specs.List.{slice_get}
use Rattle.loom_rows.specs.Condition.{value}
use Rattle.loom_rows.specs.Leftovers.{AreSame}
use Rattle.loom_rows.specs.Meet.{Meet}
use Rattle.loom_pins.specs.declared.slot.Slot.{Slot}
use Rattle.loom_pins.specs.declared.slot.CouplerPins.{CouplerPins}
use Rattle.loom_pins.specs.FirstFit.{IsTaken, IsFree, IsFirstFit, AreFirstFit, ArePins, IsFirstWithout}

-- the slots are of one coupler, and are used under the same choices
pub record IsAlike (slot twin : Slot) : Type 0 where
  pub coupler : slot.coupler.0 ≡ twin.coupler.0
  pub usage : AreSame (value slot.usage) (value twin.usage)

alike-sym : (slot twin : Slot) → IsAlike slot twin → IsAlike twin slot
alike-sym slot twin alike = record { coupler = sym alike.coupler; usage = λ c. sym (alike.usage c) }

-- each slot of the one list has a slot like it at its place in the other
abbrev pub HasTwins : List Slot → List Slot → Type 0
HasTwins one other = (at : ℕ) (slot : Slot) → slice_get one at ≡ Some slot → (twin : Slot) × (slice_get other at ≡ Some twin) × IsAlike slot twin

module _ (one other : List Slot) (twins : HasTwins one other) where
  taken_alike : (pins : List ℕ) (at : ℕ) (slot twin : Slot) (pin : ℕ) → IsAlike slot twin → IsTaken one pins at slot pin → IsTaken other pins at twin pin
  taken_alike pins at slot twin pin alike t =
      let h = twins t.earlier t.holder t.holds.stands in
      let m : Meet (value t.holder.usage) (value slot.usage) = t.together in
      record {
        earlier = t.earlier;
        before = t.before;
        holder = h.0;
        holds = record { stands = h.1; of_coupler = sym h.2.coupler ∙ (t.holds.of_coupler ∙ alike.coupler); has = t.holds.has };
        together = (m.0, sym (h.2.usage m.0) ∙ m.1, sym (alike.usage m.0) ∙ m.2);
      }

  free_back : (coupler : CouplerPins) (pins : List ℕ) (at : ℕ) (slot twin : Slot) (pin : ℕ) → IsAlike slot twin → IsFree coupler other pins at twin pin
      → IsFree coupler one pins at slot pin
  free_back coupler pins at slot twin pin alike f = record {
    from_one = f.from_one;
    within = f.within;
    open_to_all = f.open_to_all;
    untaken = λ t. f.untaken (taken_alike pins at slot twin pin alike t);
  }

module _ (one other : List Slot) (twins : HasTwins one other) (back : HasTwins other one) where
  fit_alike : (coupler : CouplerPins) (pins : List ℕ) (at : ℕ) (slot twin : Slot) (pin : ℕ) → IsAlike slot twin
      → IsFirstFit coupler one pins at slot pin → IsFirstFit coupler other pins at twin pin
  fit_alike coupler pins at slot twin pin alike fit = record {
    free = free_back other one back coupler pins at twin slot pin (alike-sym slot twin alike) fit.free;
    least = λ more free. fit.least more (free_back one other twins coupler pins at slot twin more alike free);
  }

  fitted_alike : (couplers : List CouplerPins) (pins : List ℕ) → AreFirstFit couplers one pins → AreFirstFit couplers other pins
  fitted_alike couplers pins fitted at pin twin coupler has stands is =
      let s = back at twin stands in
      let its : slice_get couplers s.0.coupler.0 ≡ Some coupler = subst (λ (n : ℕ). slice_get couplers n ≡ Some coupler) s.2.coupler is in
      fit_alike coupler pins at s.0 twin pin (alike-sym twin s.0 s.2) (fitted at pin s.0 coupler has s.1 its)

  pub pins-alike : (couplers : List CouplerPins) (pins : List ℕ) → length one ≡ length other → ArePins couplers one pins → ArePins couplers other pins
  pins-alike couplers pins count are = record { each = are.each ∙ count; fitted = fitted_alike couplers pins are.fitted }

  pub without-alike : (couplers : List CouplerPins) (at : ℕ) → IsFirstWithout couplers one at → IsFirstWithout couplers other at
  without-alike couplers at w =
      let t = twins at w.slot w.stands in
      record {
        pins = w.pins;
        before = w.before;
        fitted = fitted_alike couplers w.pins w.fitted;
        slot = t.0;
        stands = t.1;
        coupler = w.coupler;
        is_its = subst (λ (n : ℕ). slice_get couplers n ≡ Some w.coupler) t.2.coupler w.is_its;
        none = λ pin free. w.none pin (free_back one other twins w.coupler w.pins at w.slot t.0 pin t.2 free);
      }
