use Rattle.std.proofs.Common.{◌≡◌, List, length, get_or, sym, ap, subst, ◌∙◌, arith}
use Rattle.std.proofs.lemmas.Bool.{false≢true}
use Rattle.loom_types.specs.declared.plan.SetLine.{SetLine}
use Rattle.loom_audit.specs.LayoutRule.{IsLaidAtCost}
use Rattle.loom_audit.proofs.Firsts.{before_more, each_from_before, first_without}
use Rattle.loom_audit.proofs.laid.first_not_laid.Goals as goal

pub is_laid_at_cost-requires-clause-net : goal.is_laid_at_cost-requires-clause-net
is_laid_at_cost-requires-clause-net c =
    let set : SetLine = c.set-item.result in
    (c.requires set (
      c.loop-at.at,
      omega (arith, c.loop-at-test.true, ap length c.as_slice-set-items.ensures),
      sym (c.set-item.is ∙ ap (λ (l : List SetLine). get_or l c.loop-at.at set) c.as_slice-set-items.ensures),
    )).0

pub returns-then-not-branch-clause-fails : goal.returns-then-not-branch-clause-fails
returns-then-not-branch-clause-fails c =
    let set : SetLine = c.set-item.result in
    let is : set ≡ get_or c.args.plan.now.sets c.loop-at.at set = c.set-item.is ∙ ap (λ (l : List SetLine). get_or l c.loop-at.at set) c.as_slice-set-items.ensures in
    first_without (λ i s. IsLaidAtCost c.args.project.now s) c.args.plan.now.sets c.loop-at.at set
    (omega (arith, c.loop-at-test.true, ap length c.as_slice-set-items.ensures)) c.loop-at.invariant
    (λ laid. absurd (false≢true (sym c.if-not-branch.true ∙ c.in_ok-is_laid_at_cost.ensures.1 (subst (IsLaidAtCost c.args.project.now) (sym is) laid))))

pub loop-at-preserved : goal.loop-at-preserved
loop-at-preserved c =
    let set : SetLine = c.set-item.result in
    let is : set ≡ get_or c.args.plan.now.sets c.loop-at.at set = c.set-item.is ∙ ap (λ (l : List SetLine). get_or l c.loop-at.at set) c.as_slice-set-items.ensures in
    before_more (λ i s. IsLaidAtCost c.args.project.now s) c.args.plan.now.sets c.loop-at.at set
    (omega (arith, c.loop-at-test.true, ap length c.as_slice-set-items.ensures)) c.loop-at.invariant
    (subst (IsLaidAtCost c.args.project.now) is (c.in_ok-is_laid_at_cost.ensures.0 c.if-not-branch.false))

pub returns-clause-holds : goal.returns-clause-holds
returns-clause-holds c =
    each_from_before (λ i s. IsLaidAtCost c.args.project.now s) c.args.plan.now.sets c.loop-at.at
    (omega (arith, c.loop-at-test.false, ap length c.as_slice-set-items.ensures)) c.loop-at.invariant
