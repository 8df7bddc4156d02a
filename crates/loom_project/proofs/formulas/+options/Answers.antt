use Rattle.std.proofs.Common.{sym, ap, ◌∙◌}
use Rattle.std.proofs.lemmas.Result.{err_from_is_err_and}
use Rattle.loom_project.specs.declared.fault.Of.TheVariants as of
use Rattle.loom_base.specs.First.{every}
use Rattle.loom_project.specs.Draft.{option_names}
use Rattle.loom_project.specs.Sound.{known}
use Rattle.loom_project.proofs.FormulaLemmas.{flat_next, flat_stops, option_names-And, option_names-Or, option_names-One}
use Rattle.loom_project.proofs.formulas.+options.Goals as goal

pub check_members-returns-in_err-check_options : goal.check_members-returns-in_err-check_options
check_members-returns-in_err-check_options t c =
    let p = err_from_is_err_and c.from_residual.result c.from_residual.ensures.1 in
    rw (p.1, p.2, ← c.as_slice-member-items.ensures)
    (sym (flat_stops _ _ _ _ _ _ c.member-item.is c.loop-member-test.true c.loop-member.invariant (sym c.in_err-check_options.ensures)))

pub check_members-loop-member-preserved : goal.check_members-loop-member-preserved
check_members-loop-member-preserved t c =
    flat_next _ _ _ _ _ c.member-item.is c.loop-member-test.true c.loop-member.invariant (sym c.in_ok-check_options.ensures)

pub check_options-returns-in-And : goal.check_options-returns-in-And
check_options-returns-in-And t c =
    let check = every (known of.OptionName c.args.options.now) in
    c.check_members.ensures ∙ sym (ap (λ f. check (option_names f)) c.in-And.is ∙ ap check (option_names-And c.in-And.members))

pub check_options-returns-in-Or : goal.check_options-returns-in-Or
check_options-returns-in-Or t c =
    let check = every (known of.OptionName c.args.options.now) in
    c.check_members-in-Or.ensures ∙ sym (ap (λ f. check (option_names f)) c.in-Or.is ∙ ap check (option_names-Or c.in-Or.members))

pub check_options-returns-in-One : goal.check_options-returns-in-One
check_options-returns-in-One t c =
    let check = every (known of.OptionName c.args.options.now) in
    c.check_members-in-One.ensures ∙ sym (ap (λ f. check (option_names f)) c.in-One.is ∙ ap check (option_names-One c.in-One.members))
