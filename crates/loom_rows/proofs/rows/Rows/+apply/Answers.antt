-- Each step of the join passes its outcome on.
use Rattle.std.proofs.Common.{ℕ, arith, sym, ap, subst, ◌∙◌, min, Ok, Err, Result}
use Rattle.std.proofs.lemmas.Result.{err_from_is_err_and}
use Rattle.loom_rows.specs.declared.cond.Cond.{Cond}
use Rattle.loom_rows.specs.declared.op.Op.{Op}
use Rattle.loom_rows.specs.declared.stop.RowsStop.{RowsStop}
use Rattle.loom_rows.specs.Condition.{value, first_option}
use Rattle.loom_rows.specs.Table.{Table}
use Rattle.loom_rows.specs.Outcome.{Outcome, joined, IsNoted}
use Rattle.loom_rows.proofs.Outcomes.{outcome-found, outcome-no_memory}
use Rattle.loom_rows.proofs.Joins.{stop-low, has-high_a, has-high_b, high-falls, stop-high, low-has, low-rises, high-rises, finish, noted-answer, noted-new, memo-insert}
use Rattle.loom_rows.proofs.rows.Rows.+apply.Goals as goal

-- the outcome of the whole join
abbrev Stops : Op → Table → Cond → Cond → Table → Result Cond RowsStop → Type 0
Stops op t a b u r = Outcome (joined op (value a) (value b)) (min (first_option t.options a) (first_option t.options b)) t u r

pub returns-in-Some-get-clause-outcome : goal.returns-in-Some-get-clause-outcome
returns-in-Some-get-clause-outcome t c =
    let n : IsNoted c.args.op c.args.self.now c.pair_with-key.result c.in-Some-get.cond.now = c.requires.memo c.pair_with-key.result c.in-Some-get.cond.now (sym c.in-Some-get.ensures.value) in
    outcome-found _ _ c.args.self.now _ c.requires.sound
    (noted-answer c.args.op c.args.self.now c.args.a c.args.b c.requires.has_a c.requires.has_b c.in-Some-get.cond.now
    (subst (λ (k : ℕ × ℕ). IsNoted c.args.op c.args.self.now k c.in-Some-get.cond.now) c.pair_with-key.ensures n))

pub apply-requires : goal.apply-requires
apply-requires t c =
    let p = c.parts-parts.ensures in
    (omega (arith, c.decreases, p.first, p.in_range, p.low_rises), (p.has_a_low, (p.has_b_low, (c.requires.sound, c.requires.memo))))

pub returns-in_err-low-clause-outcome : goal.returns-in_err-low-clause-outcome
returns-in_err-low-clause-outcome t c =
    let e = err_from_is_err_and c.from_residual.result c.from_residual.ensures.1 in
    let r = c.parts-parts.result in
    subst (Stops c.args.op c.args.self.now c.args.a c.args.b c.apply.new.self) (sym (e.1 ∙ ap Err e.2))
    (stop-low c.args.op c.args.self.now c.args.a c.args.b r.at r.a_low r.b_low r.a_high r.b_high c.parts-parts.ensures _ c.apply.new.self c.in_err-low.field-0.0 c.in_err-low.ensures.outcome _)

pub apply-requires-2 : goal.apply-requires-2
apply-requires-2 t c =
    let p = c.parts-parts.ensures in
    let r = c.parts-parts.result in (
      omega (arith, c.decreases, high-falls c.args.op c.args.self.now c.args.a c.args.b r.at r.a_low r.b_low r.a_high r.b_high c.parts-parts.ensures c.apply.new.self c.in_ok-low.low c.in_ok-low.ensures.outcome),
      (
        has-high_a c.args.op c.args.self.now c.args.a c.args.b r.at r.a_low r.b_low r.a_high r.b_high c.parts-parts.ensures c.apply.new.self c.in_ok-low.low c.in_ok-low.ensures.outcome,
        (has-high_b c.args.op c.args.self.now c.args.a c.args.b r.at r.a_low r.b_low r.a_high r.b_high c.parts-parts.ensures c.apply.new.self c.in_ok-low.low c.in_ok-low.ensures.outcome, (c.in_ok-low.ensures.outcome.sound, c.in_ok-low.ensures.memo)),
      ),
    )

pub returns-in_err-high-clause-outcome : goal.returns-in_err-high-clause-outcome
returns-in_err-high-clause-outcome t c =
    let e = err_from_is_err_and c.from_residual-in_err-high.result c.from_residual-in_err-high.ensures.1 in
    let r = c.parts-parts.result in
    subst (Stops c.args.op c.args.self.now c.args.a c.args.b c.apply-2.new.self) (sym (e.1 ∙ ap Err e.2))
    (stop-high c.args.op c.args.self.now c.args.a c.args.b r.at r.a_low r.b_low r.a_high r.b_high c.parts-parts.ensures c.apply.new.self c.in_ok-low.low c.in_ok-low.ensures.outcome _ c.apply-2.new.self c.in_err-high.field-0.0 c.in_err-high.ensures.outcome _)

pub make-requires-clause-has_low : goal.make-requires-clause-has_low
make-requires-clause-has_low t c =
    let p = c.parts-parts.ensures in
    let r = c.parts-parts.result in
    low-has c.args.op c.args.self.now c.args.a c.args.b r.at r.a_low r.b_low r.a_high r.b_high p c.apply.new.self c.in_ok-low.low c.in_ok-low.ensures.outcome c.apply-2.new.self c.in_ok-high.high c.in_ok-high.ensures.outcome

pub make-requires-clause-low_rises : goal.make-requires-clause-low_rises
make-requires-clause-low_rises t c =
    let p = c.parts-parts.ensures in
    let r = c.parts-parts.result in
    low-rises c.args.op c.args.self.now c.args.a c.args.b r.at r.a_low r.b_low r.a_high r.b_high p c.apply.new.self c.in_ok-low.low c.in_ok-low.ensures.outcome c.apply-2.new.self c.in_ok-high.high c.in_ok-high.ensures.outcome

pub make-requires-clause-high_rises : goal.make-requires-clause-high_rises
make-requires-clause-high_rises t c =
    let p = c.parts-parts.ensures in
    let r = c.parts-parts.result in
    high-rises c.args.op c.args.self.now c.args.a c.args.b r.at r.a_low r.b_low r.a_high r.b_high p c.apply.new.self c.in_ok-low.low c.in_ok-low.ensures.outcome c.apply-2.new.self c.in_ok-high.high c.in_ok-high.ensures.outcome

pub returns-in_err-cond-clause-outcome : goal.returns-in_err-cond-clause-outcome
returns-in_err-cond-clause-outcome t c =
    let e = err_from_is_err_and c.from_residual-in_err-cond.result c.from_residual-in_err-cond.ensures.1 in
    let r = c.parts-parts.result in
    subst (Stops c.args.op c.args.self.now c.args.a c.args.b c.make.new.self) (sym (e.1 ∙ ap Err e.2))
    (finish c.args.op c.args.self.now c.args.a c.args.b r.at r.a_low r.b_low r.a_high r.b_high c.parts-parts.ensures c.apply.new.self c.in_ok-low.low c.in_ok-low.ensures.outcome c.apply-2.new.self c.in_ok-high.high c.in_ok-high.ensures.outcome c.make.new.self (Err c.in_err-cond.field-0.0) c.in_err-cond.ensures)

pub returns-in_err-insert-clause-outcome : goal.returns-in_err-insert-clause-outcome
returns-in_err-insert-clause-outcome t c =
    let e = err_from_is_err_and c.from_residual-in_err-insert.result c.from_residual-in_err-insert.ensures.1 in
    let r = c.parts-parts.result in
    subst (Stops c.args.op c.args.self.now c.args.a c.args.b c.make.new.self) (sym (e.1 ∙ ap Err e.2))
    (outcome-no_memory _ _ c.args.self.now c.make.new.self (Ok c.in_ok-cond.cond)
    (finish c.args.op c.args.self.now c.args.a c.args.b r.at r.a_low r.b_low r.a_high r.b_high c.parts-parts.ensures c.apply.new.self c.in_ok-low.low c.in_ok-low.ensures.outcome c.apply-2.new.self c.in_ok-high.high c.in_ok-high.ensures.outcome c.make.new.self (Ok c.in_ok-cond.cond) c.in_ok-cond.ensures))

pub returns-clause-outcome : goal.returns-clause-outcome
returns-clause-outcome t c =
    let p = c.parts-parts.ensures in
    let r = c.parts-parts.result in
    finish c.args.op c.args.self.now c.args.a c.args.b r.at r.a_low r.b_low r.a_high r.b_high p c.apply.new.self c.in_ok-low.low c.in_ok-low.ensures.outcome c.apply-2.new.self c.in_ok-high.high c.in_ok-high.ensures.outcome
    c.make.new.self (Ok c.in_ok-cond.cond) c.in_ok-cond.ensures

pub returns-clause-memo : goal.returns-clause-memo
returns-clause-memo t c =
    let p = c.parts-parts.ensures in
    let r = c.parts-parts.result in
    let whole = finish c.args.op c.args.self.now c.args.a c.args.b r.at r.a_low r.b_low r.a_high r.b_high p c.apply.new.self c.in_ok-low.low c.in_ok-low.ensures.outcome c.apply-2.new.self c.in_ok-high.high c.in_ok-high.ensures.outcome
    c.make.new.self (Ok c.in_ok-cond.cond) c.in_ok-cond.ensures in
    memo-insert c.args.op c.apply-2.new.self c.make.new.self c.apply-2.new.memo c.insert.new.self _ c.in_ok-cond.cond c.in_ok-cond.ensures.gains c.in_ok-high.ensures.memo c.in_ok-insert.ensures.updates
    (noted-new c.args.op c.args.self.now c.make.new.self c.args.a c.args.b c.requires.has_a c.requires.has_b _ c.pair_with-key.ensures c.in_ok-cond.cond whole)
