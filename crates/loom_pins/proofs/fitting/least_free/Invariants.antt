use Rattle.std.proofs.Common.{◌≡◌, ◌≤◌, length}
use Rattle.loom_pins.specs.Holders.{ArePassed}
use Rattle.loom_pins.proofs.fitting.least_free.Given as goal

abbrev pub invariant-loop-pin : goal.invariant-loop-pin
invariant-loop-pin l = record {
  passed : ArePassed l.coupler l.slots l.holders.pins (length l.holders.pins) l.slot l.pin;
  positive : 1 ≤ l.pin;
  unchanged : l.meetings ≡ l.initial.meetings;
}
