use Rattle.std.proofs.Common.{◌≡◌, take, Ok}
use Rattle.loom_base.specs.First.{every}
use Rattle.loom_project.specs.Sound.{pin_check}
use Rattle.loom_project.proofs.segments.check_pins.Given as goal

abbrev pub invariant-loop-pin : goal.invariant-loop-pin
invariant-loop-pin l = every (pin_check l.segment l.pins) (take l.pin-index l.reserved) ≡ Ok tt
