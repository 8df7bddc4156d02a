use Rattle.std.proofs.Common.{arith}
use Rattle.std.specs.HashSet.{contains}
use Rattle.loom_audit.specs.Grouping.{is_same_pair}
use Rattle.loom_check.proofs.EndsAtPins.{ends-more, ends-all}
use Rattle.loom_check.proofs.pin_tables.wires_at_shared.Goals as goal

pub loop-at-preserved : goal.loop-at-preserved
loop-at-preserved c =
    ends-more c.args.shared.now c.args.wires.now c.loop-at.at c.in-Ok.position c.index-wires-at.result c.loop-at.by_pin c.add_wire.new.by_pin
    c.loop-at-test.true c.index-wires-at.is c.in-Ok.ensures.1 c.in_ok-add_wire.ensures c.loop-at.invariant

pub returns : goal.returns
returns c =
    ends-all (contains is_same_pair c.args.shared.now) c.args.wires.now c.loop-at.at c.loop-at.by_pin (omega (arith, c.loop-at-test.false))
    c.loop-at.invariant
