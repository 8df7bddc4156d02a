-- Each net's patterns are worked out in turn, and its sets appended.
use Rattle.std.proofs.Common.{◌≡◌, ◌++◌, get_or, refl, List, sym, ap, subst, ◌∙◌, arith, Result, Err, IfErr}
use Rattle.std.proofs.lemmas.Result.{err_from_is_err_and}
use Rattle.loom_active.specs.declared.live.LiveSet.{LiveSet}
use Rattle.loom_active.specs.declared.stop.ActiveStop.{ActiveStop}
use Rattle.loom_active.specs.LiveStops.{IsLiveStop}
use Rattle.loom_active.specs.declared.terminals.Terminal.{Terminal}
use Rattle.std.specs.List.{filter_map}
use Rattle.loom_active.specs.FoundSets.{set_of}
use Rattle.loom_active.proofs.SetSteps.{terminals-few, whens-has, found-stop, found-many, found-next, found-sets, found-fit}
use Rattle.loom_active.proofs.live.sets_of.Goals as goal

pub patterns_of-requires-clause-whens : goal.patterns_of-requires-clause-whens
patterns_of-requires-clause-whens c = whens-has c.args.project.now c.requires.some c.requires.clear c.args.valid c.requires.valid c.args.nets.now c.requires.counted c.loop-net.net (omega (arith, c.loop-net-test.true, c.net_count-net-end.ensures.count)) c.args.rows.now c.loop-net.rows c.requires.limit c.requires.terminals c.loop-net.sets c.loop-net.invariant c.as_slice-terminals.result.now (subst (λ (l : List Terminal). l ≡ get_or c.args.nets.now c.loop-net.net l) (sym c.as_slice-terminals.ensures) c.index-nets-net.is)

pub patterns_of-requires-clause-few : goal.patterns_of-requires-clause-few
patterns_of-requires-clause-few c = terminals-few c.args.project.now c.requires.some c.requires.clear c.args.valid c.requires.valid c.args.nets.now c.requires.counted c.loop-net.net (omega (arith, c.loop-net-test.true, c.net_count-net-end.ensures.count)) c.args.rows.now c.loop-net.rows c.requires.limit c.requires.terminals c.loop-net.sets c.loop-net.invariant c.as_slice-terminals.result.now (subst (λ (l : List Terminal). l ≡ get_or c.args.nets.now c.loop-net.net l) (sym c.as_slice-terminals.ensures) c.index-nets-net.is)

pub returns-in_err-patterns-clause-stop : goal.returns-in_err-patterns-clause-stop
returns-in_err-patterns-clause-stop c =
    let e = err_from_is_err_and c.from_residual.result c.from_residual.ensures.1 in
    subst (λ (r : Result (List LiveSet) ActiveStop). IfErr r (IsLiveStop c.args.project.now)) (sym (e.1 ∙ ap Err e.2))
    (found-stop c.args.project.now c.requires.some c.requires.clear c.args.valid c.requires.valid c.args.nets.now c.requires.counted c.loop-net.net (omega (arith, c.loop-net-test.true, c.net_count-net-end.ensures.count)) c.args.rows.now c.loop-net.rows c.requires.limit c.requires.terminals c.loop-net.sets c.loop-net.invariant c.as_slice-terminals.result.now (subst (λ (l : List Terminal). l ≡ get_or c.args.nets.now c.loop-net.net l) (sym c.as_slice-terminals.ensures) c.index-nets-net.is) c.patterns_of.new.rows c.in_err-patterns.field-0.0 c.in_err-patterns.ensures.works)

pub returns-then-len-clause-stop : goal.returns-then-len-clause-stop
returns-then-len-clause-stop c = found-many c.args.project.now c.requires.some c.requires.clear c.args.valid c.requires.valid c.args.nets.now c.requires.counted c.loop-net.net (omega (arith, c.loop-net-test.true, c.net_count-net-end.ensures.count)) c.args.rows.now c.loop-net.rows c.requires.limit c.requires.terminals c.loop-net.sets c.loop-net.invariant c.as_slice-terminals.result.now (subst (λ (l : List Terminal). l ≡ get_or c.args.nets.now c.loop-net.net l) (sym c.as_slice-terminals.ensures) c.index-nets-net.is) c.patterns_of.new.rows c.in_ok-patterns.patterns c.in_ok-patterns.ensures.works c.in_ok-patterns.ensures.patterns (record { 0 = c.loop-net.net }) refl c.add_sets.new.sets (c.in_ok-add_sets.ensures ∙ ap (λ l. c.loop-net.sets ++ filter_map (set_of (record { 0 = c.loop-net.net })) l) c.as_slice.ensures) (omega (arith, c.if-len.true, c.len.ensures))

pub loop-net-preserved : goal.loop-net-preserved
loop-net-preserved c = found-next c.args.project.now c.requires.some c.requires.clear c.args.valid c.requires.valid c.args.nets.now c.requires.counted c.loop-net.net (omega (arith, c.loop-net-test.true, c.net_count-net-end.ensures.count)) c.args.rows.now c.loop-net.rows c.requires.limit c.requires.terminals c.loop-net.sets c.loop-net.invariant c.as_slice-terminals.result.now (subst (λ (l : List Terminal). l ≡ get_or c.args.nets.now c.loop-net.net l) (sym c.as_slice-terminals.ensures) c.index-nets-net.is) c.patterns_of.new.rows c.in_ok-patterns.patterns c.in_ok-patterns.ensures.works c.in_ok-patterns.ensures.patterns (record { 0 = c.loop-net.net }) refl c.add_sets.new.sets (c.in_ok-add_sets.ensures ∙ ap (λ l. c.loop-net.sets ++ filter_map (set_of (record { 0 = c.loop-net.net })) l) c.as_slice.ensures) (omega (arith, c.if-len.false, c.len.ensures))

pub returns-clause-sets : goal.returns-clause-sets
returns-clause-sets c = found-sets c.args.project.now c.loop-net.net (omega (arith, c.loop-net-test.false, c.net_count-net-end.ensures.count)) c.args.rows.now c.loop-net.rows c.loop-net.sets c.loop-net.invariant

pub returns-clause-few_rows : goal.returns-clause-few_rows
returns-clause-few_rows c = found-fit c.args.project.now c.loop-net.net (omega (arith, c.loop-net-test.false, c.net_count-net-end.ensures.count)) c.args.rows.now c.loop-net.rows c.loop-net.sets c.loop-net.invariant
