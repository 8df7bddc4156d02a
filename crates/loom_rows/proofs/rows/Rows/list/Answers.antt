use Rattle.std.proofs.Common.{◌≡◌, ◌+◌, ◌∷◌, [], Some, slice_get, length, refl, ap, subst, ◌∙◌, arith, length-append}
use Rattle.std.proofs.lemmas.Option.{slice_get_read}
use Rattle.loom_rows.specs.Table.{IsSound}
use Rattle.loom_rows.specs.Printing.{known_by}
use Rattle.loom_rows.proofs.PrintSteps.{listed-next, listed-printed, listed-options}
use Rattle.loom_rows.proofs.rows.Rows.list.Goals as goal

pub loop-cond-preserved : goal.loop-cond-preserved
loop-cond-preserved c =
    let i = c.loop-cond.cond-index in
    let here : slice_get c.args.conds.now i ≡ Some c.cond-item.result = slice_get_read c.args.conds.now (length c.args.conds.now) i c.cond-item.result refl (omega (arith, c.loop-cond-test.true)) c.cond-item.is in (
      ap length c.in_ok-push.ensures.ok ∙ length-append c.loop-cond.numbers (c.in_ok-number.number ∷ []) ∙ ap (λ n. n + 1) c.loop-cond.invariant.0,
      listed-next c.args.self.now c.args.conds.now c.loop-cond.rows c.print.new.rows (known_by c.loop-cond.known) (known_by c.print.new.known) c.loop-cond.numbers c.push.new.self c.cond-item.result c.in_ok-number.number
          c.loop-cond.invariant.1 (ap (slice_get c.args.conds.now) c.loop-cond.invariant.0 ∙ here) c.in_ok-number.ensures c.in_ok-push.ensures.ok,
    )

pub returns-clause-printed : goal.returns-clause-printed
returns-clause-printed c =
    let ended : length c.loop-cond.numbers ≡ length c.args.conds.now = omega (arith, c.loop-cond.invariant.0, c.loop-cond-test.false, c.loop-cond.auto.cond-index-end) in
    listed-printed c.args.self.now (subst IsSound c.self.view_is c.self.invariant.sound) c.args.conds.now c.requires c.loop-cond.rows (known_by c.loop-cond.known) c.loop-cond.numbers c.loop-cond.invariant.1 ended

pub returns-clause-options : goal.returns-clause-options
returns-clause-options c =
    let ended : length c.loop-cond.numbers ≡ length c.args.conds.now = omega (arith, c.loop-cond.invariant.0, c.loop-cond-test.false, c.loop-cond.auto.cond-index-end) in
    listed-options c.args.self.now (subst IsSound c.self.view_is c.self.invariant.sound) c.args.conds.now c.requires c.loop-cond.rows (known_by c.loop-cond.known) c.loop-cond.numbers c.loop-cond.invariant.1 ended
