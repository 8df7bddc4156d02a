use Rattle.std.proofs.Common.{◌≡◌, ◌<◌, ℕ, List, length, map, get_or, slice_get, Some, refl, sym, ap, subst, ◌∙◌, arith}
use Rattle.std.proofs.lemmas.Bool.{false≢true}
use Rattle.std.proofs.lemmas.List.{length-map, get_or-map}
use Rattle.std.proofs.lemmas.Option.{slice_get_read}
use Rattle.loom_rows.specs.declared.cond.Cond.{Never}
use Rattle.loom_types.specs.declared.plan.SetLine.{SetLine}
use Rattle.loom_active.specs.declared.live.LiveSet.{LiveSet}
use Rattle.loom_audit.specs.FirstFailure.{AgreeBefore}
use Rattle.loom_audit.specs.LiveLines.{IsPrintedSet}
use Rattle.loom_audit.proofs.Differences.{agree_more, differ_apart, differ_end, agree_all}
use Rattle.loom_check.specs.LiveKeys.{key_of}
use Rattle.loom_check.proofs.PrintedSets.{live-at}
use Rattle.loom_check.proofs.live_lines.first_other_set.Goals as goal

no_live : LiveSet
no_live = record { net = record { 0 = 0 }; mask = 0; cond = Never }

pub is_printed-requires-clause-has : goal.is_printed-requires-clause-has
is_printed-requires-clause-has c =
    c.requires.live.has _ (live-at c.args.live.now c.loop-at.at _ (omega (arith, c.loop-at-test.true, c.min-both.ensures)))

set_stands : (sets items : List SetLine) (at : ℕ) (line : SetLine) → items ≡ sets → at < length items → line ≡ get_or items at line → slice_get sets at ≡ Some line
set_stands sets items at line same within is =
    ap (λ (l : List SetLine). slice_get l at) (sym same) ∙ slice_get_read items (length items) at line refl within is

pub is_printed-requires-clause-refers : goal.is_printed-requires-clause-refers
is_printed-requires-clause-refers c =
    c.requires.refer c.loop-at.at c.index-sets-at.result
    (set_stands c.args.plan.now.sets c.as_slice-sets.result.now c.loop-at.at c.index-sets-at.result c.as_slice-sets.ensures
    (omega (arith, c.loop-at-test.true, c.min-both.ensures)) c.index-sets-at.is)

key_at : (live : List LiveSet) (at : ℕ) → at < length live → get_or (map key_of live) at (0, 0) ≡ key_of (get_or live at no_live)
key_at live at within = get_or-map key_of live at no_live (0, 0) within

pub returns-then-not-is_printed-clause-fails : goal.returns-then-not-is_printed-clause-fails
unfolding no_live
returns-then-not-is_printed-clause-fails c =
    let at = c.loop-at.at in
    let live = c.args.live.now in
    let set : SetLine = c.index-sets-at.result in
    let in_live : at < length live = omega (arith, c.loop-at-test.true, c.min-both.ensures) in
    let in_sets : at < length c.args.plan.now.sets = omega (arith, c.loop-at-test.true, c.min-both.ensures, ap length c.as_slice-sets.ensures) in
    let is : set ≡ get_or c.args.plan.now.sets at set = c.index-sets-at.is ∙ ap (λ (l : List SetLine). get_or l at set) c.as_slice-sets.ensures in
    differ_apart (IsPrintedSet c.args.project.now c.args.plan.now) (map key_of live) c.args.plan.now.sets at (0, 0) set
    (omega (arith, in_live, length-map live key_of)) in_sets c.loop-at.invariant
    (λ p. absurd (false≢true (c.if-not-is_printed.ensures.1
    (subst (λ (k : ℕ × ℕ). IsPrintedSet c.args.project.now c.args.plan.now k set) (key_at live at in_live)
    (subst (IsPrintedSet c.args.project.now c.args.plan.now (get_or (map key_of live) at (0, 0))) (sym is) p)))))

pub loop-at-preserved : goal.loop-at-preserved
unfolding no_live
loop-at-preserved c =
    let at = c.loop-at.at in
    let live = c.args.live.now in
    let set : SetLine = c.index-sets-at.result in
    let in_live : at < length live = omega (arith, c.loop-at-test.true, c.min-both.ensures) in
    let in_sets : at < length c.args.plan.now.sets = omega (arith, c.loop-at-test.true, c.min-both.ensures, ap length c.as_slice-sets.ensures) in
    let is : set ≡ get_or c.args.plan.now.sets at set = c.index-sets-at.is ∙ ap (λ (l : List SetLine). get_or l at set) c.as_slice-sets.ensures in
    agree_more (IsPrintedSet c.args.project.now c.args.plan.now) (map key_of live) c.args.plan.now.sets at (0, 0) set
    (omega (arith, in_live, length-map live key_of)) in_sets c.loop-at.invariant
    (subst (IsPrintedSet c.args.project.now c.args.plan.now (get_or (map key_of live) at (0, 0))) is
    (subst (λ (k : ℕ × ℕ). IsPrintedSet c.args.project.now c.args.plan.now k set) (sym (key_at live at in_live)) (c.if-not-is_printed.ensures.0 refl)))

pub returns-then-live-sets-clause-holds : goal.returns-then-live-sets-clause-holds
returns-then-live-sets-clause-holds c =
    let live = c.args.live.now in
    agree_all (IsPrintedSet c.args.project.now c.args.plan.now) (map key_of live) c.args.plan.now.sets c.loop-at.at
    (omega (arith, c.loop-at-test.false, c.loop-at.auto.at-end, c.min-both.ensures, length-map live key_of, ap length c.as_slice-sets.ensures))
    (length-map live key_of ∙ (c.if-live-sets.true ∙ ap length c.as_slice-sets.ensures)) c.loop-at.invariant

pub returns-else-live-sets-clause-fails : goal.returns-else-live-sets-clause-fails
returns-else-live-sets-clause-fails c =
    let live = c.args.live.now in
    differ_end (IsPrintedSet c.args.project.now c.args.plan.now) (map key_of live) c.args.plan.now.sets c.min-both.result
    (omega (arith, c.min-both.ensures, length-map live key_of, ap length c.as_slice-sets.ensures))
    (λ same. c.if-live-sets.false (sym (length-map live key_of) ∙ (same ∙ sym (ap length c.as_slice-sets.ensures))))
    (subst (λ (n : ℕ). AgreeBefore (IsPrintedSet c.args.project.now c.args.plan.now) (map key_of live) c.args.plan.now.sets n)
    (omega (arith, c.loop-at-test.false, c.loop-at.auto.at-end)) c.loop-at.invariant)
