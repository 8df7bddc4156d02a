use Rattle.std.proofs.Common.{rules, ap}
use Rattle.loom_undo.specs.Changes.{after_edit}
use Rattle.loom_top.specs.Entries.{IsOutcome}
use Rattle.loom_top.proofs.EntryLemmas.{made, not_made}
use Rattle.loom_top.proofs.entries.changed.Goals as goal

pub returns-in-Ok-clause-outcome : goal.returns-in-Ok-clause-outcome
returns-in-Ok-clause-outcome c = IsOutcome.applied c.args.edit.now c.edit.new.self.changes c.in-Ok.ensures.applied.changes

pub returns-in-Ok-clause-changes : goal.returns-in-Ok-clause-changes
returns-in-Ok-clause-changes c =
    made (after_edit c.args.session.now.changes c.args.edit.now) c.edit.new.self.changes c.args.session.now.changes c.in-Ok.ensures.applied.changes

pub returns-in-Err-clause-outcome : goal.returns-in-Err-clause-outcome
returns-in-Err-clause-outcome c =
    IsOutcome.refused c.args.edit.now c.in-Err.fault (c.in-Err.ensures.cause (search rules))

pub returns-in-Err-clause-changes : goal.returns-in-Err-clause-changes
returns-in-Err-clause-changes c =
    not_made (after_edit c.args.session.now.changes c.args.edit.now) c.edit.new.self.changes c.args.session.now.changes c.in-Err.fault
    (c.in-Err.ensures.cause (search rules)) (ap (λ s. s.changes) c.in-Err.ensures.refused)
