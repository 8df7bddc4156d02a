use Rattle.std.proofs.Common.{◌≡◌, ℕ, ◌<◌, List, Option, Some, None, length, get_or, Result, Err, IfErr, refl, sym, ap, subst, ◌∙◌, arith, slice_get}
use Rattle.std.proofs.lemmas.Bool.{true≢false}
use Rattle.std.proofs.lemmas.Option.{slice_get_read}
use Rattle.std.proofs.lemmas.Result.{err_from_is_err_and}
use Rattle.loom_rows.specs.declared.cond.Cond.{Cond}
use Rattle.loom_rows.specs.declared.stop.RowsStop.{RowsStop}
use Rattle.loom_formula.specs.declared.row_list.Row.{Row}
use Rattle.loom_rows.specs.Table.{Table, Has}
use Rattle.loom_rows.specs.RowLists.{AreConditionsOf}
use Rattle.loom_types.specs.declared.wire.Wire.{Wire}
use Rattle.loom_audit.specs.declared.spot.Spot.{Spot}
use Rattle.loom_check.specs.ConditionAnswers.{ConditionsFailAt, wire, StopsConditions}
use Rattle.loom_check.specs.MetSets.{AreMet, KnowsMet}
use Rattle.loom_check.specs.Stages.{HasConditions}
use Rattle.loom_check.proofs.MetMembers.{sets-there}
use Rattle.loom_check.proofs.WireWork.{worked-start, has-conditions, worked-next, condition-fails, work-stops}
use Rattle.loom_check.proofs.conditions.conditions_failure.Goals as goal

-- the wire that a step reads
there : (wires items : List Wire) (at : ℕ) (w : Wire) → items ≡ wires → at < length items → w ≡ get_or items at w → slice_get wires at ≡ Some w
there wires items at w same within is =
    slice_get_read wires (length wires) at w refl (omega (arith, within, ap length same)) (is ∙ ap (λ (l : List Wire). get_or l at w) same)

none-some : (positions : List ℕ) → ◌≡◌ {A = Option (List ℕ)} None (Some positions) → ⊥
none-some positions e = absurd (cc)

conditions-kept : (rows : List Row) (t u : Table) (conds : List Cond) → ((x : Cond) → Has t x → Has u x) → AreConditionsOf rows t conds
    → AreConditionsOf rows u conds
conditions-kept rows t u conds kept are i x e = let (has, means) = are i x e in (kept x has, means)

pub loop-at-init : goal.loop-at-init
loop-at-init c =
    (worked-start c.args.project.now c.args.plan.now c.requires.sets c.args.rows.now c.requires.stands, c.requires.conds, c.requires.limit)

pub unreachable-requires : goal.unreachable-requires
unreachable-requires c =
    let w : Wire = c.wire-item.result in
    let stands = there c.args.plan.now.wires c.as_slice-wire-items.result.now c.loop-at.at w c.as_slice-wire-items.ensures c.loop-at-test.true c.wire-item.is in
    let known : KnowsMet c.args.plan.now c.args.met.now w =
    c.requires.met c.loop-at.at w (omega (arith, c.loop-at-test.true, ap length c.as_slice-wire-items.ensures)) stands in
    absurd (none-some known.positions (c.in_default.ensures.value ∙ known.found))

pub is_where_sets_are-requires-clause-row : goal.is_where_sets_are-requires-clause-row
is_where_sets_are-requires-clause-row c =
    c.requires.sets.takes.rows.wires c.loop-at.at c.wire-item.result
    (there c.args.plan.now.wires c.as_slice-wire-items.result.now c.loop-at.at c.wire-item.result c.as_slice-wire-items.ensures c.loop-at-test.true c.wire-item.is)

pub is_where_sets_are-requires-clause-met : goal.is_where_sets_are-requires-clause-met
is_where_sets_are-requires-clause-met c =
    let plan = c.args.plan.now in
    let w : Wire = c.wire-item.result in
    subst (λ (l : List ℕ). AreMet plan w l) (sym c.as_slice.ensures)
    (sets-there plan c.args.met.now c.requires.met c.loop-at.at w c.in-Some.positions.now
    (omega (arith, c.loop-at-test.true, ap length c.as_slice-wire-items.ensures))
    (c.wire-item.is ∙ ap (λ (l : List Wire). get_or l c.loop-at.at w) c.as_slice-wire-items.ensures) (sym c.in-Some.ensures.value))

pub returns-in_err-is_where_sets_are-clause-stop :
    goal.returns-in_err-is_where_sets_are-clause-stop
returns-in_err-is_where_sets_are-clause-stop c =
    let plan = c.args.plan.now in
    let w : Wire = c.wire-item.result in
    let stands = there plan.wires c.as_slice-wire-items.result.now c.loop-at.at w c.as_slice-wire-items.ensures c.loop-at-test.true c.wire-item.is in
    let met : AreMet plan w c.as_slice.result.now =
    subst (λ (l : List ℕ). AreMet plan w l) (sym c.as_slice.ensures)
    (sets-there plan c.args.met.now c.requires.met c.loop-at.at w c.in-Some.positions.now
    (omega (arith, c.loop-at-test.true, ap length c.as_slice-wire-items.ensures))
    (c.wire-item.is ∙ ap (λ (l : List Wire). get_or l c.loop-at.at w) c.as_slice-wire-items.ensures) (sym c.in-Some.ensures.value)) in
    let e = err_from_is_err_and c.from_residual.result c.from_residual.ensures.1 in
    subst (λ (r : Result (Option Spot) RowsStop). IfErr r (StopsConditions c.args.project.now plan)) (sym (e.1 ∙ ap Err e.2))
    (work-stops c.args.project.now plan c.requires.sets c.loop-at.rows c.is_where_sets_are.new.rows c.loop-at.at c.loop-at.invariant.0
    c.loop-at.invariant.2 w stands c.as_slice.result.now met c.in_err-is_where_sets_are.field-0.0 c.in_err-is_where_sets_are.ensures.works)

pub returns-then-not-branch-clause-fails : goal.returns-then-not-branch-clause-fails
returns-then-not-branch-clause-fails c =
    let plan = c.args.plan.now in
    let w : Wire = c.wire-item.result in
    let stands = there plan.wires c.as_slice-wire-items.result.now c.loop-at.at w c.as_slice-wire-items.ensures c.loop-at-test.true c.wire-item.is in
    let met : AreMet plan w c.as_slice.result.now =
    subst (λ (l : List ℕ). AreMet plan w l) (sym c.as_slice.ensures)
    (sets-there plan c.args.met.now c.requires.met c.loop-at.at w c.in-Some.positions.now
    (omega (arith, c.loop-at-test.true, ap length c.as_slice-wire-items.ensures))
    (c.wire-item.is ∙ ap (λ (l : List Wire). get_or l c.loop-at.at w) c.as_slice-wire-items.ensures) (sym c.in-Some.ensures.value)) in
    subst (ConditionsFailAt c.args.project.now plan) (sym c.in_ok-line.ensures)
    (wire c.loop-at.at
    (condition-fails c.args.project.now plan c.requires.sets c.loop-at.rows c.is_where_sets_are.new.rows c.loop-at.at c.loop-at.invariant.0
    c.loop-at.invariant.2 w stands c.as_slice.result.now met c.in_ok-is_where_sets_are.field-0 c.in_ok-is_where_sets_are.ensures.works
    (λ holds. true≢false (sym (c.in_ok-is_where_sets_are.ensures.holds.1 holds) ∙ c.if-not-branch.true))))

pub loop-at-preserved : goal.loop-at-preserved
loop-at-preserved c =
    let plan = c.args.plan.now in
    let w : Wire = c.wire-item.result in
    let stands = there plan.wires c.as_slice-wire-items.result.now c.loop-at.at w c.as_slice-wire-items.ensures c.loop-at-test.true c.wire-item.is in
    let met : AreMet plan w c.as_slice.result.now =
    subst (λ (l : List ℕ). AreMet plan w l) (sym c.as_slice.ensures)
    (sets-there plan c.args.met.now c.requires.met c.loop-at.at w c.in-Some.positions.now
    (omega (arith, c.loop-at-test.true, ap length c.as_slice-wire-items.ensures))
    (c.wire-item.is ∙ ap (λ (l : List Wire). get_or l c.loop-at.at w) c.as_slice-wire-items.ensures) (sym c.in-Some.ensures.value)) in
    let works = c.in_ok-is_where_sets_are.ensures.works in (
      worked-next c.args.project.now plan c.requires.sets c.loop-at.rows c.is_where_sets_are.new.rows c.loop-at.at c.loop-at.invariant.0
          c.loop-at.invariant.2 w stands c.as_slice.result.now met c.in_ok-is_where_sets_are.field-0 works
          (c.in_ok-is_where_sets_are.ensures.holds.0 c.if-not-branch.false),
      conditions-kept plan.rows c.loop-at.rows c.is_where_sets_are.new.rows c.args.conds.now (λ x has. works.keeps x has) c.loop-at.invariant.1,
      works.gains.same_limit ∙ c.loop-at.invariant.2,
    )

pub returns-clause-holds : goal.returns-clause-holds
returns-clause-holds c =
    let at : c.loop-at.at ≡ length c.args.plan.now.wires =
    omega (arith, c.loop-at-test.false, c.loop-at.auto.at-end, ap length c.as_slice-wire-items.ensures) in
    subst (HasConditions c.args.project.now c.args.plan.now) at
    (has-conditions c.args.project.now c.args.plan.now c.requires.sets c.loop-at.rows c.loop-at.at c.loop-at.invariant.0)
