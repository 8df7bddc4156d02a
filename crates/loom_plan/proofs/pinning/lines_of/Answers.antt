use Rattle.std.proofs.Common.{map}
use Rattle.loom_plan.specs.Work.{pin_lines, slot_at}
use Rattle.loom_plan.proofs.StepStops.{pin_lines-more}
use Rattle.loom_plan.proofs.pinning.lines_of.Goals as goal

pub loop-at-preserved : goal.loop-at-preserved
loop-at-preserved c =
    pin_lines-more c.args.used.now c.args.pins.now (pin_lines (map slot_at c.args.used.now) c.args.pins.now) c.loop-at.lines c.push.new.self
    c.loop-at.at _ c.loop-at-test.true c.requires c.loop-at.invariant c.in_ok-push.ensures.ok
