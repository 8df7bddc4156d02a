use Rattle.std.proofs.Common.{sym, ◌∙◌, arith}
use Rattle.std.proofs.lemmas.Result.{err_from_is_err_and}
use Rattle.loom_formula.specs.Formula.{nodes_of}
use Rattle.loom_project.specs.Draft.{index_of}
use Rattle.loom_project.specs.Sound.{terminals_check}
use Rattle.loom_base.proofs.EachLemmas.{then_passes, list_stops, each_next, made_next}
use Rattle.loom_project.proofs.FormulaLemmas.{sum_next}
use Rattle.loom_project.proofs.nets.checked_terminals.Goals as goal

pub returns-in_err-checked_terminal-clause-gives : goal.returns-in_err-checked_terminal-clause-gives
unfolding terminals_check
returns-in_err-checked_terminal-clause-gives c =
    let p = err_from_is_err_and c.from_residual-in_err-checked_terminal.result c.from_residual-in_err-checked_terminal.ensures.1 in
    rw (p.1, p.2, ← c.as_slice-terminals.ensures) (λ fresh. then_passes _ _ (sym c.in_ok-within_limit.ensures.check)
    ∙ list_stops _ _ _ _ _ _ c.in_ok-require.ensures c.index-terminals-i.is c.loop-i-test.true c.loop-i.invariant.passed
    (rw (← c.loop-i.invariant.counted) c.in_err-checked_terminal.ensures.answers))

pub loop-i-preserved : goal.loop-i-preserved
loop-i-preserved c = record {
  counted = omega (
    arith,
    c.in_ok-checked_terminal.ensures.counted,
    c.loop-i.invariant.counted,
    sum_next (λ terminal. nodes_of terminal.when) c.as_slice-terminals.result.now c.loop-i.i c.index-terminals-i.result c.index-terminals-i.is c.loop-i-test.true,
  );
  few = c.in_ok-checked_terminal.ensures.few;
  places = made_next (λ cavity. cavity.0) (λ terminal. index_of c.args.cavities.now terminal.cavity) _ _ _ _ _ _ c.index-terminals-i.is c.loop-i-test.true
      c.loop-i.invariant.places c.in_ok-checked_terminal.ensures.place c.in_ok-push.ensures.ok;
  passed = each_next _ _ _ _ c.index-terminals-i.is c.loop-i-test.true c.loop-i.invariant.passed
      (rw (← c.loop-i.invariant.counted) c.in_ok-checked_terminal.ensures.answers);
}
