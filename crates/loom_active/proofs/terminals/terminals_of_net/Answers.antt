-- Each terminal is worked out in turn.
use Rattle.std.proofs.Common.{◌≡◌, ℕ, ◌<◌, List, length, map, get_or, sym, ap, subst, ◌∙◌, arith, refl, Result, Ok, Err}
use Rattle.std.specs.List.{flat_map}
use Rattle.std.proofs.lemmas.List.{get_or-map, length-map}
use Rattle.std.proofs.lemmas.Result.{err_from_is_err_and}
use Rattle.loom_base.specs.declared.positions.CavityNo.{CavityNo}
use Rattle.loom_formula.specs.declared.formula.Formula.{Formula}
use Rattle.loom_project.specs.declared.draft.Draft.{Draft}
use Rattle.loom_project.specs.Draft.{index_of, cavity_names}
use Rattle.loom_project.specs.Project.{net_at, cavities_of}
use Rattle.loom_rows.specs.declared.stop.RowsStop.{RowsStop}
use Rattle.loom_rows.specs.Condition.{value}
use Rattle.loom_rows.specs.Leftovers.{AreSame, Works}
use Rattle.loom_rows.specs.Formulas.{worked_of, meaning_of}
use Rattle.loom_active.specs.declared.terminals.Terminal.{Terminal}
use Rattle.loom_active.specs.LiveWork.{terminal_worked}
use Rattle.loom_active.proofs.TerminalSteps.{drafts_of, terminal-has2, terminal-stop1, terminal-stop2, terminal-no_memory, terminal-next, terminals-done, terminals-works}
use Rattle.loom_active.proofs.terminals.terminals_of_net.Goals as goal

drafts_length : (draft : Draft) (net : ℕ) (cavities : List CavityNo) → map (λ c. c.0) cavities ≡ cavities_of draft net → length cavities ≡ length (drafts_of draft net)
drafts_length draft net cavities places =
    sym (length-map cavities (λ c. c.0)) ∙ ap length places ∙ length-map (drafts_of draft net) (λ d. index_of (cavity_names draft.cavities) d.cavity)

in_drafts : (draft : Draft) (net : ℕ) (cavities : List CavityNo) → map (λ c. c.0) cavities ≡ cavities_of draft net → (k : ℕ) → k < length cavities → k < length (drafts_of draft net)
in_drafts draft net cavities places k lt = omega (arith, drafts_length draft net cavities places)

-- the number of a net's k-th cavity
cavity_at : (draft : Draft) (net : ℕ) (cavities : List CavityNo) → map (λ c. c.0) cavities ≡ cavities_of draft net → (k : ℕ) → k < length cavities → (d : CavityNo) → (get_or cavities k d).0 ≡ get_or (cavities_of draft net) k 0
cavity_at draft net cavities places k lt d = sym (get_or-map (λ c. c.0) cavities k d 0 lt) ∙ ap (λ l. get_or l k 0) places

pub returns-in_err-when-clause-works : goal.returns-in_err-when-clause-works
returns-in_err-when-clause-works c =
    let e = err_from_is_err_and c.from_residual.result c.from_residual.ensures.1 in
    subst (λ (r : Result (List Terminal) RowsStop). Works (flat_map (terminal_worked c.args.project.now.options (value c.args.valid)) (net_at c.args.project.now c.args.net.0).terminals) c.args.rows.now c.of_formula.new.self r) (sym (e.1 ∙ ap Err e.2))
    (terminal-stop1 c.args.project.now c.args.valid c.args.net.0 c.loop-at.at (in_drafts c.args.project.now c.args.net.0 c.cavities-cavities.result.now c.cavities-cavities.ensures.places c.loop-at.at c.loop-at-test.true) c.args.rows.now c.loop-at.rows c.loop-at.terminals c.loop-at.invariant c.options-options.result.now c.options-options.ensures c.of_formula.new.self c.in_err-when.field-0.0 (subst (λ (f : Formula). Works (worked_of c.options-options.result.now f) c.loop-at.rows c.of_formula.new.self (Err c.in_err-when.field-0.0)) c.when.ensures c.in_err-when.ensures.works))

pub and-requires-clause-has_a : goal.and-requires-clause-has_a
and-requires-clause-has_a c = terminal-has2 c.args.project.now c.args.valid c.args.net.0 c.loop-at.at (in_drafts c.args.project.now c.args.net.0 c.cavities-cavities.result.now c.cavities-cavities.ensures.places c.loop-at.at c.loop-at-test.true) c.args.rows.now c.loop-at.rows c.loop-at.terminals c.loop-at.invariant c.options-options.result.now c.options-options.ensures c.of_formula.new.self c.in_ok-when.when (subst (λ (f : Formula). Works (worked_of c.options-options.result.now f) c.loop-at.rows c.of_formula.new.self (Ok c.in_ok-when.when)) c.when.ensures c.in_ok-when.ensures.works) c.in_ok-when.ensures.value.0 (subst (λ (f : Formula). AreSame (value c.in_ok-when.when) (meaning_of c.options-options.result.now f)) c.when.ensures c.in_ok-when.ensures.value.1) c.requires.has

pub returns-in_err-active-clause-works : goal.returns-in_err-active-clause-works
returns-in_err-active-clause-works c =
    let e = err_from_is_err_and c.from_residual-in_err-active.result c.from_residual-in_err-active.ensures.1 in
    subst (λ (r : Result (List Terminal) RowsStop). Works (flat_map (terminal_worked c.args.project.now.options (value c.args.valid)) (net_at c.args.project.now c.args.net.0).terminals) c.args.rows.now c.and.new.self r) (sym (e.1 ∙ ap Err e.2))
    (terminal-stop2 c.args.project.now c.args.valid c.args.net.0 c.loop-at.at (in_drafts c.args.project.now c.args.net.0 c.cavities-cavities.result.now c.cavities-cavities.ensures.places c.loop-at.at c.loop-at-test.true) c.args.rows.now c.loop-at.rows c.loop-at.terminals c.loop-at.invariant c.options-options.result.now c.options-options.ensures c.of_formula.new.self c.in_ok-when.when (subst (λ (f : Formula). Works (worked_of c.options-options.result.now f) c.loop-at.rows c.of_formula.new.self (Ok c.in_ok-when.when)) c.when.ensures c.in_ok-when.ensures.works) c.in_ok-when.ensures.value.0 (subst (λ (f : Formula). AreSame (value c.in_ok-when.when) (meaning_of c.options-options.result.now f)) c.when.ensures c.in_ok-when.ensures.value.1) c.and.new.self c.in_err-active.field-0.0 c.in_err-active.ensures.works)

pub returns-in_err-push-clause-works : goal.returns-in_err-push-clause-works
returns-in_err-push-clause-works c =
    let e = err_from_is_err_and c.from_residual-in_err-push.result c.from_residual-in_err-push.ensures.1 in
    subst (λ (r : Result (List Terminal) RowsStop). Works (flat_map (terminal_worked c.args.project.now.options (value c.args.valid)) (net_at c.args.project.now c.args.net.0).terminals) c.args.rows.now c.and.new.self r) (sym (e.1 ∙ ap Err e.2))
    (terminal-no_memory c.args.project.now c.args.valid c.args.net.0 c.loop-at.at (in_drafts c.args.project.now c.args.net.0 c.cavities-cavities.result.now c.cavities-cavities.ensures.places c.loop-at.at c.loop-at-test.true) c.args.rows.now c.loop-at.rows c.loop-at.terminals c.loop-at.invariant c.options-options.result.now c.options-options.ensures c.of_formula.new.self c.in_ok-when.when (subst (λ (f : Formula). Works (worked_of c.options-options.result.now f) c.loop-at.rows c.of_formula.new.self (Ok c.in_ok-when.when)) c.when.ensures c.in_ok-when.ensures.works) c.in_ok-when.ensures.value.0 (subst (λ (f : Formula). AreSame (value c.in_ok-when.when) (meaning_of c.options-options.result.now f)) c.when.ensures c.in_ok-when.ensures.value.1) c.and.new.self c.in_ok-active.active c.in_ok-active.ensures.works c.in_ok-active.ensures.value.0 c.in_ok-active.ensures.value.1)

pub loop-at-preserved : goal.loop-at-preserved
loop-at-preserved c =
    terminal-next c.args.project.now c.args.valid c.args.net.0 c.loop-at.at (in_drafts c.args.project.now c.args.net.0 c.cavities-cavities.result.now c.cavities-cavities.ensures.places c.loop-at.at c.loop-at-test.true) c.args.rows.now c.loop-at.rows c.loop-at.terminals c.loop-at.invariant c.options-options.result.now c.options-options.ensures c.of_formula.new.self c.in_ok-when.when (subst (λ (f : Formula). Works (worked_of c.options-options.result.now f) c.loop-at.rows c.of_formula.new.self (Ok c.in_ok-when.when)) c.when.ensures c.in_ok-when.ensures.works) c.in_ok-when.ensures.value.0 (subst (λ (f : Formula). AreSame (value c.in_ok-when.when) (meaning_of c.options-options.result.now f)) c.when.ensures c.in_ok-when.ensures.value.1) c.and.new.self c.in_ok-active.active c.in_ok-active.ensures.works c.in_ok-active.ensures.value.0 c.in_ok-active.ensures.value.1 _ refl refl (cavity_at c.args.project.now c.args.net.0 c.cavities-cavities.result.now c.cavities-cavities.ensures.places c.loop-at.at c.loop-at-test.true (record { 0 = 0 })) c.push.new.self c.in_ok-push.ensures.ok

pub returns-clause-works : goal.returns-clause-works
returns-clause-works c =
    terminals-works c.args.project.now (value c.args.valid) c.args.net.0 c.loop-at.at (omega (arith, drafts_length c.args.project.now c.args.net.0 c.cavities-cavities.result.now c.cavities-cavities.ensures.places, c.loop-at-test.false)) c.args.rows.now c.loop-at.rows c.loop-at.terminals c.loop-at.invariant

pub returns-clause-terminals : goal.returns-clause-terminals
returns-clause-terminals c =
    terminals-done c.args.project.now (value c.args.valid) c.args.net.0 c.loop-at.at (omega (arith, drafts_length c.args.project.now c.args.net.0 c.cavities-cavities.result.now c.cavities-cavities.ensures.places, c.loop-at-test.false)) c.args.rows.now c.loop-at.rows c.loop-at.terminals c.loop-at.invariant (omega (arith, c.loop-at.auto.at-end, c.cavities-cavities.ensures.at_most)) c.cavities-cavities.ensures.different c.cavities-cavities.result.now c.cavities-cavities.ensures.places c.cavities-cavities.ensures.in_range
