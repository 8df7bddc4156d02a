use Rattle.std.proofs.Common.{sym, ap, ◌∙◌}
use Rattle.std.proofs.lemmas.Result.{err_from_is_err_and}
use Rattle.loom_base.specs.First.{require}
use Rattle.loom_base.proofs.EachLemmas.{list_stops}
use Rattle.loom_project.specs.declared.fault.Of.TheVariants as of
use Rattle.loom_project.specs.declared.fault.ProjectFault.TheVariants.{RepeatedName}
use Rattle.loom_project.specs.Sound.{options_check, not_repeated}
use Rattle.loom_project.proofs.options.checked_options.Goals as goal

pub returns-in_err-require-clause-gives : goal.returns-in_err-require-clause-gives
unfolding options_check
returns-in_err-require-clause-gives c =
    let p = err_from_is_err_and c.from_residual-in_err-require.result c.from_residual-in_err-require.ensures.1 in
    let name = c.name-item.result in
    rw (p.1, p.2) (λ fresh. list_stops _ _ _ _ _ _ c.in_ok-within_limit.ensures.check c.name-item.is c.loop-name-test.true c.loop-name.invariant.passed
    (ap (λ names. not_repeated of.OptionName names name) (sym c.loop-name.invariant.options)
    ∙ ap (λ b. require b (RepeatedName of.OptionName name)) (sym c.in_ok-is_new.ensures.answer) ∙ sym c.in_err-require.ensures))
