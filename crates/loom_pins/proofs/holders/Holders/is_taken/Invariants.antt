use Rattle.std.proofs.Common.{◌≡◌, length}
use Rattle.loom_pins.proofs.Links.{IsLeft, ahead}
use Rattle.loom_pins.proofs.holders.Holders.is_taken.Given as goal

abbrev pub invariant-loop-next : goal.invariant-loop-next
invariant-loop-next l = record {
  left : IsLeft l.slots l.self.pins (length l.self.pins) l.slot l.pin l.next;
  unchanged : l.meetings ≡ l.initial.meetings;
}

abbrev pub decreases-loop-next : goal.decreases-loop-next
decreases-loop-next l = ahead l.next
