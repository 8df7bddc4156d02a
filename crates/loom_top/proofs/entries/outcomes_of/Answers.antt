use Rattle.std.proofs.Common.{◌+◌, List, take, subst, sym}
use Rattle.loom_answer.specs.declared.outcome.Outcome.{Outcome}
use Rattle.loom_top.specs.Entries.{AreOutcomes}
use Rattle.loom_top.proofs.EntryLemmas.{outcomes_next, after_next}
use Rattle.loom_top.proofs.entries.outcomes_of.Goals as goal

pub loop-entry-preserved : goal.loop-entry-preserved
loop-entry-preserved c = record {
  told =
      subst (λ (os : List Outcome). AreOutcomes c.args.session.now.changes (take (c.loop-entry.entry-index + 1) c.args.entries.now) os)
      (sym c.in_ok-push.ensures.ok)
      (outcomes_next c.args.session.now.changes c.args.entries.now c.loop-entry.entry-index c.entry-item.result c.loop-entry.outcomes
      c.in_ok-answered.field-0 c.loop-entry.session.changes c.entry-item.is c.loop-entry-test.true c.loop-entry.invariant.changes
      c.loop-entry.invariant.told c.in_ok-answered.ensures.outcome);
  changes = after_next c.args.session.now.changes c.args.entries.now c.loop-entry.entry-index c.entry-item.result c.loop-entry.session.changes
      c.answered.new.session.changes c.entry-item.is c.loop-entry-test.true c.loop-entry.invariant.changes c.in_ok-answered.ensures.changes;
}
