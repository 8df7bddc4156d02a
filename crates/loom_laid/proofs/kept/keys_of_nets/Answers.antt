use Rattle.std.proofs.Common.{arith}
use Rattle.loom_laid.proofs.LiveKeys.{keys-more, keys-all}
use Rattle.loom_laid.proofs.kept.keys_of_nets.Goals as goal

pub loop-net-preserved : goal.loop-net-preserved
loop-net-preserved c =
    keys-more c.args.project.now c.args.nets.now c.loop-net.net-index (record { 0 = 0 }) c.loop-net.keys.keys c.insert.new.self.keys c.in_ok-of.field-0
    c.loop-net.invariant c.loop-net-test.true c.in_ok-of.ensures c.in_ok-insert.ensures.keys

pub returns : goal.returns
returns c = keys-all c.args.project.now c.args.nets.now c.loop-net.net-index c.loop-net.keys.keys c.loop-net.invariant (omega (arith, c.loop-net-test.false))
