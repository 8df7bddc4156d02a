use Rattle.std.proofs.Common.{◌≡◌, ℕ, ◌<◌, Option, Some, None, Ok, length, get_or, refl, sym, subst, ap, ◌∙◌, arith}
use Rattle.std.specs.HashMap.{get}
use Rattle.std.proofs.lemmas.Option.{slice_get-get_or}
use Rattle.loom_rows.specs.declared.cond.Cond.{Never}
use Rattle.loom_pins.specs.declared.slot.Slot.{Slot}
use Rattle.loom_pins.specs.Holders.{pair_eq, IsLast}
use Rattle.loom_pins.proofs.Links.{IsLeft, left-first, left-next, left-taken, link-last, ahead, ahead-less}
use Rattle.loom_pins.proofs.holders.Holders.is_taken.Goals as goal

abbrev nobody : Slot
nobody = record { net = record { 0 = 0 }; coupler = record { 0 = 0 }; ordinal = 0; usage = Never }

pub loop-next-init : goal.loop-next-init
loop-next-init c =
    let n = length c.args.self.now.pins in
    let link : get pair_eq c.args.self.now.newest (c.args.slot.coupler.0, c.args.pin) ≡ c.copied-next.result =
    sym c.get.ensures.value ∙ sym c.copied-next.ensures in
    let P = λ (l : Option ℕ). IsLast c.args.slots.now c.args.self.now.pins c.args.slot.coupler.0 c.args.pin n l in
    record {
      left = left-first c.args.slots.now c.args.self.now.pins n c.args.slot c.args.pin c.copied-next.result
          (subst P link (c.requires.holders.newest c.args.slot.coupler.0 c.args.pin));
      unchanged = refl;
    }

pub returns-then-branch-clause-taken : goal.returns-then-branch-clause-taken
returns-then-branch-clause-taken c = λ e.
    let n = length c.args.self.now.pins in
    let P = λ (l : Option ℕ). IsLeft c.args.slots.now c.args.self.now.pins n c.args.slot c.args.pin l in
    let left : P (Some c.in-Some.at) = subst P c.in-Some.is c.loop-next.invariant.left in
    left-taken c.args.slots.now c.args.self.now.pins n c.args.slot c.args.pin c.in-Some.at (get_or c.args.slots.now c.in-Some.at nobody)
    (slice_get-get_or c.args.slots.now c.in-Some.at nobody (omega (arith, left.0, c.requires.holders.within))) left
    (c.in_ok-meet.ensures.some (ap Ok c.if-branch.true))

pub loop-next-smaller : goal.loop-next-smaller
loop-next-smaller c =
    let n = length c.args.self.now.pins in
    let P = λ (l : Option ℕ). IsLeft c.args.slots.now c.args.self.now.pins n c.args.slot c.args.pin l in
    let left : P (Some c.in-Some.at) = subst P c.in-Some.is c.loop-next.invariant.left in
    let link : Option ℕ = get_or c.as_slice.result.now c.in-Some.at None in
    let last = link-last c.args.slots.now c.args.self.now c.args.slot c.args.pin c.in-Some.at c.as_slice.result.now c.requires.holders c.as_slice.ensures left in
    let Q = λ (l : Option ℕ). ahead link < ahead l in
    subst Q (sym c.in-Some.is) (ahead-less c.args.slots.now c.args.self.now.pins c.args.slot.coupler.0 c.args.pin c.in-Some.at link last)

pub loop-next-preserved : goal.loop-next-preserved
loop-next-preserved c =
    let n = length c.args.self.now.pins in
    let P = λ (l : Option ℕ). IsLeft c.args.slots.now c.args.self.now.pins n c.args.slot c.args.pin l in
    let left : P (Some c.in-Some.at) = subst P c.in-Some.is c.loop-next.invariant.left in
    let link : Option ℕ = get_or c.as_slice.result.now c.in-Some.at None in
    let last = link-last c.args.slots.now c.args.self.now c.args.slot c.args.pin c.in-Some.at c.as_slice.result.now c.requires.holders c.as_slice.ensures left in
    record {
      left = left-next c.args.slots.now c.args.self.now.pins n c.args.slot c.args.pin c.in-Some.at (get_or c.args.slots.now c.in-Some.at nobody) link
          (slice_get-get_or c.args.slots.now c.in-Some.at nobody (omega (arith, left.0, c.requires.holders.within)))
          (c.in_ok-meet.ensures.none (ap Ok c.if-branch.false)) left last;
      unchanged = c.meet.ensures.unchanged ∙ c.loop-next.invariant.unchanged;
    }
