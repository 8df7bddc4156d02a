use Rattle.loom_top.proofs.EntryLemmas.{after_next}
use Rattle.loom_top.proofs.entries.make_all.Goals as goal

pub loop-entry-preserved : goal.loop-entry-preserved
loop-entry-preserved c =
    after_next c.args.session.now.changes c.args.entries.now c.loop-entry.entry-index c.entry-item.result c.loop-entry.session.changes
    c.make.new.session.changes c.entry-item.is c.loop-entry-test.true c.loop-entry.invariant c.in_ok-make.ensures
