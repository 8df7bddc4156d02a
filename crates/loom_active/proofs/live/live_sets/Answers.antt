-- The steps in order.
use Rattle.std.proofs.Common.{List, sym, ap, subst, ◌∙◌, Result, Err, IfErr}
use Rattle.std.proofs.lemmas.Result.{err_from_is_err_and}
use Rattle.loom_rows.specs.Condition.{value}
use Rattle.loom_active.specs.declared.live.Sets.{Sets}
use Rattle.loom_active.specs.declared.stop.ActiveStop.{ActiveStop}
use Rattle.loom_active.specs.declared.terminals.Terminal.{Terminal}
use Rattle.loom_active.specs.Needs.{is_valid_for}
use Rattle.loom_active.specs.LiveStops.{IsLiveStop}
use Rattle.loom_active.specs.Terminals.{AreTerminals}
use Rattle.loom_active.proofs.LiveLemmas.{terminals-stop-live, needs-stand, needs-fit, needs-terminals}
use Rattle.loom_active.proofs.live.live_sets.Goals as goal

pub returns-in_err-nets-clause-stop : goal.returns-in_err-nets-clause-stop
returns-in_err-nets-clause-stop c =
    let e = err_from_is_err_and c.from_residual-in_err-nets.result c.from_residual-in_err-nets.ensures.1 in
    subst (λ (r : Result Sets ActiveStop). IfErr r (IsLiveStop c.args.project.now)) (sym (e.1 ∙ ap Err e.2))
    (terminals-stop-live c.args.project.now c.in_ok-valid.valid c.in_ok-valid.ensures.value.1 c.valid.new.rows (c.in_ok-valid.ensures.gains.same_limit ∙ c.requires.limit) c.in_ok-valid.ensures.stands c.in_ok-valid.ensures.some_choice c.in_ok-valid.ensures.few_rows c.terminals_of.new.rows c.in_err-nets.field-0.0 c.in_err-nets.ensures.works)

pub first_clash-requires-clause-terminals : goal.first_clash-requires-clause-terminals
first_clash-requires-clause-terminals c =
    subst (λ (l : List (List Terminal)). AreTerminals c.args.project.now c.terminals_of.new.rows (is_valid_for c.args.project.now) l) (sym c.as_slice.ensures)
    (needs-terminals c.args.project.now c.in_ok-valid.valid c.in_ok-valid.ensures.value.1 c.valid.new.rows (c.in_ok-valid.ensures.gains.same_limit ∙ c.requires.limit) c.in_ok-valid.ensures.stands c.terminals_of.new.rows c.in_ok-nets.nets c.in_ok-nets.ensures.works c.in_ok-nets.ensures.terminals)

pub returns-in-Some-clause-stop : goal.returns-in-Some-clause-stop
returns-in-Some-clause-stop c = (
  needs-fit c.args.project.now c.in_ok-valid.valid c.in_ok-valid.ensures.value.1 c.valid.new.rows (c.in_ok-valid.ensures.gains.same_limit ∙ c.requires.limit) c.in_ok-valid.ensures.stands c.terminals_of.new.rows c.in_ok-nets.nets c.in_ok-nets.ensures.works,
  (rw c.in-Some.is at c.in_ok-clash.ensures.whole) ∙ c.in_ok-nets.ensures.works.gains.same_options ∙ c.in_ok-valid.ensures.gains.same_options ∙ c.requires.options,
  rw c.in-Some.is at c.in_ok-clash.ensures.some,
)

pub sets_of-requires-clause-stands : goal.sets_of-requires-clause-stands
sets_of-requires-clause-stands c = needs-stand c.args.project.now c.in_ok-valid.valid c.in_ok-valid.ensures.value.1 c.valid.new.rows (c.in_ok-valid.ensures.gains.same_limit ∙ c.requires.limit) c.in_ok-valid.ensures.stands c.terminals_of.new.rows c.in_ok-nets.nets c.in_ok-nets.ensures.works

pub sets_of-requires-clause-few_rows : goal.sets_of-requires-clause-few_rows
sets_of-requires-clause-few_rows c = needs-fit c.args.project.now c.in_ok-valid.valid c.in_ok-valid.ensures.value.1 c.valid.new.rows (c.in_ok-valid.ensures.gains.same_limit ∙ c.requires.limit) c.in_ok-valid.ensures.stands c.terminals_of.new.rows c.in_ok-nets.nets c.in_ok-nets.ensures.works

pub sets_of-requires-clause-terminals : goal.sets_of-requires-clause-terminals
sets_of-requires-clause-terminals c = subst (λ (l : List (List Terminal)). AreTerminals c.args.project.now c.terminals_of.new.rows (value c.in_ok-valid.valid) l) (sym c.as_slice-2.ensures) c.in_ok-nets.ensures.terminals
