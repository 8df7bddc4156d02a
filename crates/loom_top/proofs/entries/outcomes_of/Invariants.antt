use Rattle.std.proofs.Common.{◌≡◌, take}
use Rattle.loom_top.specs.Entries.{after_entries, AreOutcomes}
use Rattle.loom_top.proofs.entries.outcomes_of.Given as goal

abbrev pub invariant-loop-entry : goal.invariant-loop-entry
invariant-loop-entry l = record {
  told : AreOutcomes l.fn.session.changes (take l.entry-index l.entries) l.outcomes;
  changes : l.session.changes ≡ after_entries l.fn.session.changes (take l.entry-index l.entries);
}
