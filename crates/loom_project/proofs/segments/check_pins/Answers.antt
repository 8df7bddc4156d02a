use Rattle.std.proofs.Common.{sym}
use Rattle.std.proofs.lemmas.Result.{err_from_is_err_and}
use Rattle.loom_base.proofs.EachLemmas.{every_next_number, every_stops_number}
use Rattle.loom_project.proofs.segments.check_pins.Goals as goal

pub returns-in_err-check_pin : goal.returns-in_err-check_pin
returns-in_err-check_pin c =
    let p = err_from_is_err_and c.from_residual.result c.from_residual.ensures.1 in
    rw (p.1, p.2) (sym (every_stops_number _ _ _ _ c.loop-pin-test.true c.loop-pin.invariant (sym c.in_err-check_pin.ensures)))

pub loop-pin-preserved : goal.loop-pin-preserved
loop-pin-preserved c = every_next_number _ _ _ c.loop-pin-test.true c.loop-pin.invariant (sym c.in_ok-check_pin.ensures)
