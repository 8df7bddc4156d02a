use Rattle.std.proofs.Common.{sym, ◌∙◌, subst}
use Rattle.std.proofs.lemmas.Bool.{true≢false, eqb-true}
use Rattle.loom_rows.specs.declared.cond.Cond.{Cond}
use Rattle.loom_rows.specs.Condition.{value}
use Rattle.loom_rows.specs.Leftovers.{AreSame}
use Rattle.loom_rows.specs.RowLists.{meaning_at}
use Rattle.loom_check.proofs.PrintedConditions.{condition-same}
use Rattle.loom_check.proofs.PrintedSets.{printed-same, same-printed}
use Rattle.loom_check.proofs.live_lines.is_printed.Goals.{then-eq, else-eq}
use Rattle.loom_check.proofs.live_lines.is_printed.Goals as goal

pub returns-then-set-live : goal.returns-then-set-live
returns-then-set-live c =
    let means : AreSame (value c.condition.result) (meaning_at c.args.plan.now.rows c.args.set.now.row) =
    subst (λ (x : Cond). AreSame (value x) (meaning_at c.args.plan.now.rows c.args.set.now.row)) (sym c.condition.ensures)
    (condition-same c.args.plan.now.rows c.args.rows.now c.args.conds.now c.args.set.now.row c.requires.conds c.requires.counted c.requires.refers) in
    elim c.if-eq.branch [
      | then-eq w ↦ (
        λ yes. printed-same c.args.project.now c.args.plan.now c.args.live.now c.args.set.now c.requires.condition c.condition.result means
            (eqb-true c.args.set.now.net.0 c.args.live.now.net.0 (sym w.if-eq.ensures))
            (eqb-true c.args.set.now.mask c.args.live.now.mask (sym w.value-is ∙ c.if-set-live.true))
            (c.same.ensures.same.0 yes),
        λ printed. c.same.ensures.same.1
            (same-printed c.args.project.now c.args.plan.now c.args.live.now c.args.set.now c.requires.condition c.condition.result means printed),
      )
      | else-eq w ↦ absurd (true≢false (sym c.if-set-live.true ∙ (w.value-is ∙ w.if-eq.false)))
    ]
