use Rattle.std.proofs.Common.{◌≡◌, ℕ, ◌+◌, ◌<◌, ◌++◌, ◌∷◌, [], List, Option, Some, IfSome, IfNone, length, get_or, length-append, sym, subst, ap, ◌∙◌, arith}
use Rattle.std.specs.List.{slice_get}
use Rattle.std.proofs.lemmas.Option.{slice_get-get_or}
use Rattle.loom_rows.specs.declared.cond.Cond.{Never}
use Rattle.loom_pins.specs.declared.slot.Slot.{Slot}
use Rattle.loom_pins.specs.declared.slot.CouplerPins.{CouplerPins}
use Rattle.loom_pins.specs.FirstFit.{IsFirstFit, HasNone, AreFirstFit, IsFirstWithout}
use Rattle.loom_pins.proofs.Fitted.{coupler-read, fitted-push}
use Rattle.loom_pins.proofs.fitting.first_fit.Goals as goal

abbrev nobody : Slot
nobody = record { net = record { 0 = 0 }; coupler = record { 0 = 0 }; ordinal = 0; usage = Never }

pub least_free-requires-clause-reserved : goal.least_free-requires-clause-reserved
least_free-requires-clause-reserved c =
    let slot : Slot = get_or c.args.slots.now c.loop-at.at nobody in
    let coupler : CouplerPins = c.index-couplers-slot.result in
    let is = coupler-read c.args.couplers.now c.args.slots.now c.loop-at.at nobody coupler (omega arith) c.requires.couplers c.index-couplers-slot.is in
    c.in_ok-reserved.ensures slot.coupler.0 coupler is

pub least_free-requires-clause-positive : goal.least_free-requires-clause-positive
least_free-requires-clause-positive c =
    let coupler : CouplerPins = c.index-couplers-slot.result in
    let is = coupler-read c.args.couplers.now c.args.slots.now c.loop-at.at nobody coupler (omega arith) c.requires.couplers c.index-couplers-slot.is in
    c.first_to_try-first.ensures.positive c.args.couplers.now coupler c.loop-at.invariant.fitted is

pub least_free-requires-clause-passed : goal.least_free-requires-clause-passed
least_free-requires-clause-passed c =
    let coupler : CouplerPins = c.index-couplers-slot.result in
    let is = coupler-read c.args.couplers.now c.args.slots.now c.loop-at.at nobody coupler (omega arith) c.requires.couplers c.index-couplers-slot.is in
    c.first_to_try-first.ensures.passed c.args.couplers.now coupler c.loop-at.invariant.fitted is

pub returns-in-None-clause-without : goal.returns-in-None-clause-without
returns-in-None-clause-without c = λ place e.
    let slot : Slot = get_or c.args.slots.now c.loop-at.at nobody in
    let coupler : CouplerPins = c.index-couplers-slot.result in
    let lt : c.loop-at.at < length c.args.slots.now = omega arith in
    let is = coupler-read c.args.couplers.now c.args.slots.now c.loop-at.at nobody coupler lt c.requires.couplers c.index-couplers-slot.is in
    let pins : List ℕ = c.loop-at.holders.pins in
    let same : c.loop-at.at ≡ place = cc in
    let P = λ (found : Option ℕ). IfNone found (HasNone coupler c.args.slots.now pins (length pins) slot) in
    let Q = λ (at : ℕ). HasNone coupler c.args.slots.now pins at slot in
    let R = λ (at : ℕ). IsFirstWithout c.args.couplers.now c.args.slots.now at in
    subst R same (record {
      pins = pins;
      before = c.loop-at.invariant.count;
      fitted = c.loop-at.invariant.fitted;
      slot = slot;
      stands = slice_get-get_or c.args.slots.now c.loop-at.at nobody lt;
      coupler = coupler;
      is_its = is;
      none = subst Q c.loop-at.invariant.count (subst P c.in-None.is c.in_ok-pin.ensures.none);
    })

pub loop-at-preserved : goal.loop-at-preserved
loop-at-preserved c =
    let slot : Slot = get_or c.args.slots.now c.loop-at.at nobody in
    let coupler : CouplerPins = c.index-couplers-slot.result in
    let lt : c.loop-at.at < length c.args.slots.now = omega arith in
    let is = coupler-read c.args.couplers.now c.args.slots.now c.loop-at.at nobody coupler lt c.requires.couplers c.index-couplers-slot.is in
    let pins : List ℕ = c.loop-at.holders.pins in
    let given : c.give.new.self.pins ≡ pins ++ c.in-Some.pin ∷ [] = c.in_ok-give-in-Some.ensures.pins in
    let P = λ (found : Option ℕ). IfSome found (IsFirstFit coupler c.args.slots.now pins (length pins) slot) in
    let Q = λ (at : ℕ). slice_get c.args.slots.now at ≡ Some slot in
    let R = λ (ps : List ℕ). AreFirstFit c.args.couplers.now c.args.slots.now ps in
    let fit : IsFirstFit coupler c.args.slots.now pins (length pins) slot c.in-Some.pin = subst P c.in-Some.is c.in_ok-pin.ensures.some in
    let stands : Q (length pins) = subst Q (sym c.loop-at.invariant.count) (slice_get-get_or c.args.slots.now c.loop-at.at nobody lt) in
    let fitted = fitted-push c.args.couplers.now c.args.slots.now pins c.in-Some.pin slot coupler c.loop-at.invariant.fitted stands is fit in
    record {
      holders = c.in_ok-give-in-Some.ensures.holders;
      fitted = subst R (sym given) fitted;
      count = ap length given ∙ length-append pins (c.in-Some.pin ∷ []) ∙ ap (λ (n : ℕ). n + 1) c.loop-at.invariant.count;
      unchanged = c.least_free.ensures.unchanged ∙ c.loop-at.invariant.unchanged;
    }
