use Rattle.std.proofs.Common.{◌≡◌, length}
use Rattle.loom_pins.specs.FirstFit.{AreFirstFit}
use Rattle.loom_pins.specs.Holders.{AreHolders}
use Rattle.loom_pins.proofs.fitting.first_fit.Given as goal

abbrev pub invariant-loop-at : goal.invariant-loop-at
invariant-loop-at l = record {
  holders : AreHolders l.slots l.holders;
  fitted : AreFirstFit l.couplers l.slots l.holders.pins;
  count : length l.holders.pins ≡ l.at;
  unchanged : l.meetings ≡ l.rows;
}
