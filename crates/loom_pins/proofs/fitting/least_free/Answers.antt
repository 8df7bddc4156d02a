use Rattle.std.proofs.Common.{Ok, length, sym, ap, ◌∙◌, arith}
use Rattle.std.proofs.lemmas.Bool.{true≢false}
use Rattle.loom_pins.proofs.Fitted.{passed-next}
use Rattle.loom_pins.proofs.fitting.least_free.Goals as goal

pub loop-pin-preserved-then-contains : goal.loop-pin-preserved-then-contains
loop-pin-preserved-then-contains c = record {
  passed = passed-next c.args.coupler.now c.args.slots.now c.args.holders.now.pins (length c.args.holders.now.pins) c.args.slot c.loop-pin.pin
      c.loop-pin.invariant.passed
      (λ free. free.open_to_all ((c.requires.reserved c.loop-pin.pin).0 (sym c.contains.ensures ∙ c.if-contains.true)));
  positive = omega arith;
  unchanged = c.loop-pin.invariant.unchanged;
}

pub returns-then-not-branch-clause-some : goal.returns-then-not-branch-clause-some
returns-then-not-branch-clause-some c = record {
  free = record {
    from_one = c.loop-pin.invariant.positive;
    within = omega arith;
    open_to_all = λ h. true≢false (sym ((c.requires.reserved c.loop-pin.pin).1 h) ∙ (sym c.contains.ensures ∙ c.if-contains.false));
    untaken = c.in_ok-is_taken.ensures.free (ap Ok c.if-not-branch.true);
  };
  least = c.loop-pin.invariant.passed;
}
