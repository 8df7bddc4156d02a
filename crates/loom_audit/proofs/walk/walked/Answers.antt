use Rattle.std.proofs.Common.{◌≡◌, ◌<◌, ◌+◌, ◌*◌, ◌-◌, ◌≤◌, ℕ, List, Option, [], ◌∷◌, ◌++◌, length, map, get_or, reverse, subst, sym, ap, ◌∙◌, arith, vec_len, Vec, Global}
use Rattle.std.specs.Option.{option_to_list}
use Rattle.std.proofs.lemmas.List.{map_push, length-map, get_or_default, nil_from_length}
use Rattle.loom_types.specs.declared.wire.End.{End}
use Rattle.loom_types.specs.declared.wire.End.TheVariants.{Cavity}
use Rattle.loom_types.specs.declared.wire.Wire.{Wire}
use Rattle.loom_types.specs.LayoutWires.{Leg, finished}
use Rattle.loom_audit.specs.declared.thread.Thread as code
use Rattle.loom_audit.specs.declared.leg.Leg as code_leg
use Rattle.loom_audit.specs.Threads.{thread_of, leg_of_code, legs_back, newest_first, waiting}
use Rattle.loom_audit.proofs.LegSteps.{legs_back-push, length-legs_back}
use Rattle.loom_audit.proofs.WalkSteps.{Goes, goes_on, goes_home, up_short, under_is}
use Rattle.loom_audit.proofs.walk.walked.Goals as goal

-- a pop, seen through the lists
popped_lists : (old new : List (Vec code.Thread Global)) (top : Vec code.Thread Global) (r : Option (Vec code.Thread Global))
    → old ≡ new ++ option_to_list r → r ≡ Rattle.std.proofs.Common.Some top
    → waiting old ≡ waiting new ++ newest_first top.items ∷ []
popped_lists old new top r e is =
    ap (map (λ s. newest_first s.items)) (e ∙ ap (λ (o : Option (Vec code.Thread Global)). new ++ option_to_list o) is)
    ∙ map_push (λ s. newest_first s.items) new top

popped_legs : (old new : List code_leg.Leg) (leg : code_leg.Leg) → old ≡ new ++ leg ∷ [] → legs_back old ≡ leg_of_code leg ∷ legs_back new
popped_legs old new leg e = ap legs_back e ∙ legs_back-push new leg

no_legs : (old : List code_leg.Leg) → length old ≡ 0 → legs_back old ≡ []
no_legs old e = ap legs_back (nil_from_length old e)

pub stepped-requires : goal.stepped-requires
stepped-requires c =
    let stacks = waiting c.loop-leg.stacks.items in
    let start = waiting c.args.stacks.items in
    let all = legs_back c.args.legs.items in
    let legs = legs_back c.pop.new.self.items in
    let goes : Goes c.args.net.0 c.args.stem c.args.splices.now start all stacks (leg_of_code c.in-Some.leg ∷ legs) c.loop-leg.wires =
    subst (λ (l : List Leg). Goes c.args.net.0 c.args.stem c.args.splices.now start all stacks l c.loop-leg.wires)
    (popped_legs c.loop-leg.legs.items c.pop.new.self.items c.in-Some.leg c.in-Some.ensures.items) c.loop-leg.invariant in
    let short =
    up_short c.args.net.0 c.args.stem c.args.splices.now start all stacks (waiting c.pop-in-Some.new.self.items)
    (newest_first c.unwrap-threads.result.items) (leg_of_code c.in-Some.leg ∷ legs) c.loop-leg.wires goes
    (popped_lists c.loop-leg.stacks.items c.pop-in-Some.new.self.items c.unwrap-threads.result c.pop-in-Some.result c.pop-in-Some.ensures.items c.unwrap-threads.ensures)
    (get_or c.args.splices.now c.len.result (Cavity (record { 0 = 0 }))) (thread_of c.in_ok-thread.thread) c.in_ok-thread.ensures.thread in
    omega (arith, short, goes.legs_are.1, length-legs_back c.args.legs.items, c.requires.few, c.args.legs.ok.0)

pub loop-leg-preserved : goal.loop-leg-preserved
loop-leg-preserved c =
    let stacks = waiting c.loop-leg.stacks.items in
    let start = waiting c.args.stacks.items in
    let under = waiting c.pop-in-Some.new.self.items in
    let here = newest_first c.unwrap-threads.result.items in
    let all = legs_back c.args.legs.items in
    let leg = leg_of_code c.in-Some.leg in
    let legs = legs_back c.pop.new.self.items in
    let ends = c.args.splices.now in
    let name : End = get_or ends c.len.result (Cavity (record { 0 = 0 })) in
    let goes : Goes c.args.net.0 c.args.stem ends start all stacks (leg ∷ legs) c.loop-leg.wires =
    subst (λ (l : List Leg). Goes c.args.net.0 c.args.stem ends start all stacks l c.loop-leg.wires)
    (popped_legs c.loop-leg.legs.items c.pop.new.self.items c.in-Some.leg c.in-Some.ensures.items) c.loop-leg.invariant in
    let popped =
    popped_lists c.loop-leg.stacks.items c.pop-in-Some.new.self.items c.unwrap-threads.result c.pop-in-Some.result c.pop-in-Some.ensures.items c.unwrap-threads.ensures in
    let place : c.len.result ≡ length under =
    omega (arith, c.len.ensures, c.pop-in-Some.new.self.ok.0, length-map c.pop-in-Some.new.self.items (λ (s : Vec code.Thread Global). newest_first s.items)) in
    let within : c.len.result < length ends =
    omega (arith, place, under_is c.args.net.0 c.args.stem ends start all stacks under here (leg ∷ legs) c.loop-leg.wires goes popped, goes.names, goes.fewer) in
    let name_at : name ≡ get_or ends (length under) name =
    get_or_default ends c.len.result (Cavity (record { 0 = 0 })) name within ∙ ap (λ (k : ℕ). get_or ends k name) place in
    goes_on c.args.net.0 c.args.stem ends start all stacks under here leg legs c.loop-leg.wires goes popped
    name name_at
    c.gathered.new.wires c.in_ok-thread.ensures.wires
    (thread_of c.in_ok-thread.thread) c.in_ok-thread.ensures.thread
    c.stepped.new.wires c.in_ok-thread-2.ensures.wires
    (thread_of c.in_ok-thread-2.thread) c.in_ok-thread-2.ensures.thread
    (waiting c.hang.new.stacks.items) c.in_ok-hang.ensures

pub returns : goal.returns
returns c =
    let stacks = waiting c.loop-leg.stacks.items in
    let start = waiting c.args.stacks.items in
    let all = legs_back c.args.legs.items in
    let ends = c.args.splices.now in
    let name : End = get_or ends 0 (Cavity (record { 0 = 0 })) in
    let none : legs_back c.loop-leg.legs.items ≡ [] = no_legs c.loop-leg.legs.items (omega (arith, c.in_default.ensures.cases.0, c.loop-leg.legs.ok.0)) in
    let goes : Goes c.args.net.0 c.args.stem ends start all stacks [] c.loop-leg.wires =
    subst (λ (l : List Leg). Goes c.args.net.0 c.args.stem ends start all stacks l c.loop-leg.wires) none c.loop-leg.invariant in
    let name_at : name ≡ get_or ends 0 name =
    get_or_default ends 0 (Cavity (record { 0 = 0 })) name (omega (arith, goes.names)) in
    let ended : c.push.new.self ≡ c.gathered-2.new.wires ++ finished c.args.net.0 (thread_of c.in_ok-thread-3.thread) c.args.stem ∷ [] =
    c.in_ok-push.ensures.ok ∙ ap (λ (w : Wire). c.gathered-2.new.wires ++ w ∷ []) c.finished.ensures in
    goes_home c.args.net.0 c.args.stem ends start all stacks (map (λ s. newest_first s.items) c.pop-2.new.self.items) (newest_first c.unwrap-threads-2.result.items)
    c.loop-leg.wires goes
    (popped_lists c.loop-leg.stacks.items c.pop-2.new.self.items c.unwrap-threads-2.result c.pop-2.result c.pop-2.ensures.items c.unwrap-threads-2.ensures)
    name name_at
    c.gathered-2.new.wires c.in_ok-thread-3.ensures.wires
    (thread_of c.in_ok-thread-3.thread) c.in_ok-thread-3.ensures.thread
    c.push.new.self ended
