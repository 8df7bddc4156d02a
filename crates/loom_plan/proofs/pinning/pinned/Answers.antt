use Rattle.std.proofs.Common.{◌≡◌, List, Err, ap, ◌∙◌}
use Rattle.std.proofs.lemmas.Result.{IfOk-at_ok}
use Rattle.loom_pins.specs.declared.slot.CouplerPins.{CouplerPins}
use Rattle.loom_plan.specs.Work.{couplers_of}
use Rattle.loom_plan.proofs.StepStops.{lacks_pin, place_within}
use Rattle.loom_plan.proofs.pinning.pinned.Goals as goal

pub bounds-used-slot : goal.bounds-used-slot
bounds-used-slot c =
    place_within c.as_slice.result.now c.args.used.now c.in-Err-NoPin.slot _
    (c.in-Err-NoPin.ensures.without c.in-Err-NoPin.slot (ap Err c.in-Err-NoPin.field-0-is)) c.in-Err-NoPin.slot-is

pub returns-in-Err-NoPin-clause-stop : goal.returns-in-Err-NoPin-clause-stop
returns-in-Err-NoPin-clause-stop c =
    lacks_pin c.args.project.now c.args.rows.now c.requires.0 c.args.used.now c.as_slice.result.now c.in-Err-NoPin.slot _ _ c.requires.1
    (c.as_slice.ensures ∙ IfOk-at_ok (λ (l : List CouplerPins). l ≡ couplers_of c.args.project.now) c.in_ok-couplers.ensures.ok c.coupler_pins.ensures.couplers)
    (c.in-Err-NoPin.ensures.without c.in-Err-NoPin.slot (ap Err c.in-Err-NoPin.field-0-is)) c.in-Err-NoPin.slot-is
