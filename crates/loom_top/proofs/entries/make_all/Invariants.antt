use Rattle.std.proofs.Common.{◌≡◌, take}
use Rattle.loom_top.specs.Entries.{after_entries}
use Rattle.loom_top.proofs.entries.make_all.Given as goal

abbrev pub invariant-loop-entry : goal.invariant-loop-entry
invariant-loop-entry l = l.session.changes ≡ after_entries l.fn.session.changes (take l.entry-index l.entries)
