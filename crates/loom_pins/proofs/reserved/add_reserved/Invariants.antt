use Rattle.std.proofs.Common.{◌≡◌, ℕ, ◌==◌, ◌&&◌, ◌||◌, take}
use Rattle.std.specs.HashSet.{contains}
use Rattle.std.specs.List.{list_any}
use Rattle.loom_pins.specs.Holders.{pair_eq}
use Rattle.loom_pins.proofs.reserved.add_reserved.Given as goal

abbrev pub invariant-loop-pin : goal.invariant-loop-pin
invariant-loop-pin l =
    (other pin : ℕ) → contains pair_eq l.reserved (other, pin)
    ≡ (contains pair_eq l.initial.reserved (other, pin) || (l.number == other && list_any (λ x. x == pin) (take l.pin-index l.pins)))
