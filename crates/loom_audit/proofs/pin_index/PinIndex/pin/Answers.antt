use Rattle.std.proofs.Common.{◌≡◌, ◌<◌, ◌-◌, ℕ, List, Some, length, get_or, sym, ap, ◌∙◌, arith, rules}
use Rattle.std.specs.List.{position_from}
use Rattle.loom_types.specs.declared.plan.PinLine.{PinLine}
use Rattle.loom_types.specs.PinLines.{is_line_of, pin_in}
use Rattle.loom_audit.proofs.FirstLineLemmas.{place_within, pin_there, no_pin}
use Rattle.loom_audit.proofs.pin_index.PinIndex.pin.Goals as goal
use Rattle.loom_audit.proofs.pin_index.PinIndex.pin.Goals.{In-Some}

found : (c : In-Some) → position_from (is_line_of c.args.net.0 c.args.coupler.0 c.args.ordinal) 0 c.self.inside.lines ≡ Some c.in-Some.place.now
found c = sym (c.self.invariant c.args.net.0 c.args.coupler.0 c.args.ordinal) ∙ sym c.in-Some.ensures.value

pub bounds-as_slice-place : goal.bounds-as_slice-place
bounds-as_slice-place c =
    let test = is_line_of c.args.net.0 c.args.coupler.0 c.args.ordinal in
    omega (arith, ap length c.as_slice.ensures, (place_within test 0 c.self.inside.lines c.in-Some.place.now (found (goal.at.bounds-as_slice-place c).In-Some)).1)

pub offset_bounds-as_slice-place : goal.offset_bounds-as_slice-place
offset_bounds-as_slice-place c =
    let test = is_line_of c.args.net.0 c.args.coupler.0 c.args.ordinal in
    let within : c.in-Some.place.now < length c.as_slice.result.now =
    omega (arith, ap length c.as_slice.ensures, (place_within test 0 c.self.inside.lines c.in-Some.place.now (found (goal.at.offset_bounds-as_slice-place c).In-Some)).1) in
    search rules

pub returns-in-Some : goal.returns-in-Some
returns-in-Some c =
    let none : PinLine = record { net = record { 0 = 0 }; coupler = record { 0 = 0 }; ordinal = 0; pin = 0 } in
    let place = c.in-Some.place.now in
    let same : place ≡ place - 0 = omega arith in
    ap (λ (l : List PinLine). (get_or l place none).pin) c.as_slice.ensures
    ∙ (ap (λ (k : ℕ). (get_or c.self.inside.lines k none).pin) same
    ∙ (sym (pin_there c.args.net.0 c.args.coupler.0 c.args.ordinal 0 c.self.inside.lines place none (found (goal.at.returns-in-Some c).In-Some))
    ∙ ap (λ (l : List PinLine). pin_in l c.args.net.0 c.args.coupler.0 c.args.ordinal) c.self.view_is))

pub returns-in-None : goal.returns-in-None
returns-in-None c =
    sym (no_pin c.args.net.0 c.args.coupler.0 c.args.ordinal 0 c.self.inside.lines
    (sym (c.self.invariant c.args.net.0 c.args.coupler.0 c.args.ordinal) ∙ sym c.in-None.ensures.value))
    ∙ ap (λ (l : List PinLine). pin_in l c.args.net.0 c.args.coupler.0 c.args.ordinal) c.self.view_is
