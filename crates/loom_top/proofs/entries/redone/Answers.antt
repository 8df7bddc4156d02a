use Rattle.std.proofs.Common.{ap, Err}
use Rattle.loom_undo.specs.Changes.{after_redo}
use Rattle.loom_top.specs.Entries.{IsOutcome}
use Rattle.loom_top.proofs.EntryLemmas.{found, not_found}
use Rattle.loom_top.proofs.entries.redone.Goals as goal

pub returns-in-Ok-clause-outcome : goal.returns-in-Ok-clause-outcome
returns-in-Ok-clause-outcome c = IsOutcome.redone c.redo.new.self.changes c.in-Ok.ensures.redone.changes

pub returns-in-Ok-clause-changes : goal.returns-in-Ok-clause-changes
returns-in-Ok-clause-changes c =
    found (after_redo c.args.session.now.changes) c.redo.new.self.changes c.args.session.now.changes c.in-Ok.ensures.redone.changes

pub returns-in-Err-Nothing-clause-outcome : goal.returns-in-Err-Nothing-clause-outcome
returns-in-Err-Nothing-clause-outcome c = IsOutcome.nothing_to_redo (c.in-Err-Nothing.ensures.nothing (ap Err c.in-Err-Nothing.field-0-is))

pub returns-in-Err-Nothing-clause-changes : goal.returns-in-Err-Nothing-clause-changes
returns-in-Err-Nothing-clause-changes c =
    not_found (after_redo c.args.session.now.changes) c.redo.new.self.changes c.args.session.now.changes
    (c.in-Err-Nothing.ensures.nothing (ap Err c.in-Err-Nothing.field-0-is)) (ap (λ s. s.changes) c.in-Err-Nothing.ensures.refused)
