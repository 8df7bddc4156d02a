use Rattle.std.proofs.Common.{◌+◌, ap, sym, ◌∙◌}
use Rattle.std.proofs.lemmas.Result.{err_from_is_err_and}
use Rattle.loom_formula.specs.Formula.{nodes_of}
use Rattle.loom_project.specs.Sound.{rules_check}
use Rattle.loom_base.proofs.EachLemmas.{list_stops, each_next}
use Rattle.loom_project.proofs.FormulaLemmas.{sum_next}
use Rattle.loom_project.proofs.formulas.checked_rules.Goals as goal

pub returns-in_err-add-clause-answers : goal.returns-in_err-add-clause-answers
unfolding rules_check
returns-in_err-add-clause-answers c =
    let p = err_from_is_err_and c.from_residual-in_err-add.result c.from_residual-in_err-add.ensures.1 in
    rw (p.1, p.2) (list_stops _ _ _ _ _ _ c.in_ok-within_limit.ensures.check c.rule-item.is c.loop-rule-test.true c.loop-rule.invariant.passed
    (rw (← c.loop-rule.invariant.counted) (sym c.in_err-add.ensures.check)))

pub loop-rule-preserved : goal.loop-rule-preserved
loop-rule-preserved c = record {
  counted = c.in_ok-add.ensures.counted ∙ ap (λ nodes. nodes + nodes_of c.rule-item.result) c.loop-rule.invariant.counted
      ∙ sym (sum_next nodes_of _ _ _ c.rule-item.is c.loop-rule-test.true);
  few = c.in_ok-add.ensures.few;
  passed = each_next _ _ _ _ c.rule-item.is c.loop-rule-test.true c.loop-rule.invariant.passed
      (rw (← c.loop-rule.invariant.counted) (sym c.in_ok-add.ensures.check));
}
