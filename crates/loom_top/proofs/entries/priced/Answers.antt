use Rattle.std.proofs.Common.{ap, sym, subst, ◌∙◌}
use Rattle.loom_undo.specs.Changes.{Changes}
use Rattle.loom_answer.specs.declared.outcome.Outcome.{Outcome}
use Rattle.loom_reader.specs.declared.entry.Entry.TheVariants.{Price}
use Rattle.loom_top.specs.Entries.{IsOutcome}
use Rattle.loom_top.proofs.EntryLemmas.{price_stops}
use Rattle.loom_top.proofs.entries.priced.Goals as goal

pub returns-in-Ok-clause-outcome : goal.returns-in-Ok-clause-outcome
returns-in-Ok-clause-outcome c =
    subst (λ (o : Outcome). IsOutcome c.args.session.now.changes Price o) (sym c.price_of.ensures) (IsOutcome.priced c.in-Ok.plan c.in-Ok.ensures.plan)

pub returns-in_ok-named_stop-in-Err-clause-outcome : goal.returns-in_ok-named_stop-in-Err-clause-outcome
returns-in_ok-named_stop-in-Err-clause-outcome c =
    price_stops c.args.session.now.changes c.project-in-Err.result.now c.in-Err.stop c.in_ok-named_stop-in-Err.field-0
    (c.project-in-Err.ensures ∙ ap (λ (ch : Changes). ch.draft) c.plan.ensures.same) c.in-Err.ensures.stop c.in_ok-named_stop-in-Err.ensures.nameable
    c.in_ok-named_stop-in-Err.ensures.named
