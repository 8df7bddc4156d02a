use Rattle.std.proofs.Common.{◌≡◌, ℕ, ◌<◌, ◌==◌, inl, inr, Bool, false, not, List, length, map, Result, Ok, Err, sym, ap, subst, ◌∙◌, arith}
use Rattle.std.proofs.lemmas.Bool.{cases_eq, eq-eqb, eqb-true, true≢false}
use Rattle.std.proofs.lemmas.Result.{err_from_is_err_and}
use Rattle.loom_rows.specs.declared.cond.Cond.{Cond}
use Rattle.loom_rows.specs.declared.stop.RowsStop.{RowsStop}
use Rattle.loom_rows.specs.Condition.{Meaning, value}
use Rattle.loom_rows.specs.Disjunction.{any_worked, some_hold}
use Rattle.loom_rows.specs.Leftovers.{AreSame, Works}
use Rattle.loom_rows.specs.Printing.{AreHad}
use Rattle.loom_rows.specs.RowLists.{meaning_at}
use Rattle.loom_rows.specs.Table.{Has}
use Rattle.loom_check.specs.Stages.{conditions_of}
use Rattle.loom_check.specs.WireConditions.{sets_at}
use Rattle.loom_check.proofs.PrintedConditions.{condition-has, condition-same}
use Rattle.loom_check.proofs.SetConditions.{works-as, works-stopped, works-not_yet, conditions-had, conditions-mean, sets-refer, as-many, same-holds, holds-same}
use Rattle.loom_check.proofs.conditions.is_where_sets_are.Goals as goal
use Rattle.loom_check.proofs.conditions.is_where_sets_are.Goals.{then-not-is_empty, else-not-is_empty}

not-empty : (n : ℕ) → false ≡ (n == 0) → 0 < n
not-empty n test = elim (cases_eq n 0) [
  | inl e ↦ absurd (true≢false (sym (eq-eqb n 0 e) ∙ sym test))
  | inr other ↦ omega (arith, other)
]

pub returns-in_err-listed-clause-works : goal.returns-in_err-listed-clause-works
returns-in_err-listed-clause-works c =
    let ws = any_worked (conditions_of c.args.plan.now (sets_at c.args.plan.now c.args.positions.now)) in
    let e = err_from_is_err_and c.from_residual.result c.from_residual.ensures.1 in
    subst (λ (r : Result Bool RowsStop). Works ws c.args.rows.now c.args.rows.now r) (sym (e.1 ∙ ap Err e.2))
    (works-not_yet Bool ws c.args.rows.now c.row_count.ensures.sound)

pub any_of-requires : goal.any_of-requires
any_of-requires c =
    let plan = c.args.plan.now in
    subst (AreHad c.args.rows.now) (sym (c.as_slice.ensures ∙ c.in_ok-listed.ensures))
    (conditions-had plan c.args.conds.now c.args.rows.now c.requires.counted c.requires.conds (sets_at plan c.args.positions.now)
    (sets-refer plan c.args.positions.now c.requires.met.within c.requires.sets))

pub returns-in_err-any-clause-works : goal.returns-in_err-any-clause-works
returns-in_err-any-clause-works c =
    let plan = c.args.plan.now in
    let e = err_from_is_err_and c.from_residual-in_err-any.result c.from_residual-in_err-any.ensures.1 in
    let ws = any_worked (conditions_of plan (sets_at plan c.args.positions.now)) in
    subst (λ (r : Result Bool RowsStop). Works ws c.args.rows.now c.any_of.new.self r) (sym (e.1 ∙ ap Err e.2))
    (works-stopped Cond Bool ws c.args.rows.now c.any_of.new.self c.in_err-any.field-0.0
    (subst (λ (fs : List Meaning). Works {A = Cond} (any_worked fs) c.args.rows.now c.any_of.new.self (Err c.in_err-any.field-0.0))
    (ap (map value) (c.as_slice.ensures ∙ c.in_ok-listed.ensures)
    ∙ conditions-mean plan c.args.conds.now c.args.rows.now c.requires.counted c.requires.conds (sets_at plan c.args.positions.now)
    (sets-refer plan c.args.positions.now c.requires.met.within c.requires.sets))
    c.in_err-any.ensures.works))

pub same-requires-clause-has_b : goal.same-requires-clause-has_b
same-requires-clause-has_b c =
    subst (Has c.any_of.new.self) (sym c.condition.ensures)
    (c.in_ok-any.ensures.works.keeps _
    (condition-has c.args.plan.now.rows c.args.rows.now c.args.conds.now c.args.wire.now.row c.requires.conds c.requires.counted c.requires.row))

pub returns-clause-holds : goal.returns-clause-holds
returns-clause-holds c =
    let plan = c.args.plan.now in
    let w = c.args.wire.now in
    let sets = sets_at plan c.args.positions.now in
    let count = as-many plan c.args.positions.now c.requires.met.within in
    let told : AreSame (value c.in_ok-any.any) (some_hold (conditions_of plan sets)) =
    subst (λ (fs : List Meaning). AreSame (value c.in_ok-any.any) (some_hold fs))
    (ap (map value) (c.as_slice.ensures ∙ c.in_ok-listed.ensures)
    ∙ conditions-mean plan c.args.conds.now c.args.rows.now c.requires.counted c.requires.conds sets
    (sets-refer plan c.args.positions.now c.requires.met.within c.requires.sets))
    c.in_ok-any.ensures.value.1 in
    elim c.if-not-is_empty.branch [
      | then-not-is_empty v ↦
          let own : AreSame (value v.condition.result) (meaning_at plan.rows w.row) =
          subst (λ (x : Cond). AreSame (value x) (meaning_at plan.rows w.row)) (sym v.condition.ensures)
          (condition-same plan.rows c.args.rows.now c.args.conds.now w.row c.requires.conds c.requires.counted c.requires.row) in
          let some : 0 < length sets = omega (arith, count, not-empty (length c.args.positions.now) v.if-not-is_empty.ensures) in (
            λ yes.
                same-holds plan c.args.conds.now w sets c.in_ok-any.any v.condition.result told own some (v.same.ensures.same.0 (sym v.result-is ∙ yes)),
            λ holds. v.result-is ∙ v.same.ensures.same.1 (holds-same plan c.args.conds.now w sets c.in_ok-any.any v.condition.result told own holds),
          )
      | else-not-is_empty v ↦ (
        λ yes. absurd (true≢false (sym yes ∙ (v.result-is ∙ ap not v.if-not-is_empty.false))),
        λ holds. let none : length c.args.positions.now ≡ 0 = eqb-true (length c.args.positions.now) 0 (sym v.if-not-is_empty.ensures) in
            let some = holds.some in absurd (omega (arith, some, count, none)),
      )
    ]

pub returns-clause-works : goal.returns-clause-works
returns-clause-works c =
    let plan = c.args.plan.now in
    works-as (any_worked (conditions_of plan (sets_at plan c.args.positions.now))) c.args.rows.now c.any_of.new.self c.in_ok-any.any _
    (subst (λ (fs : List Meaning). Works (any_worked fs) c.args.rows.now c.any_of.new.self (Ok c.in_ok-any.any))
    (ap (map value) (c.as_slice.ensures ∙ c.in_ok-listed.ensures)
    ∙ conditions-mean plan c.args.conds.now c.args.rows.now c.requires.counted c.requires.conds (sets_at plan c.args.positions.now)
    (sets-refer plan c.args.positions.now c.requires.met.within c.requires.sets))
    c.in_ok-any.ensures.works)
