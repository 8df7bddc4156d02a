use Rattle.std.proofs.Common.{◌≡◌, drop}
use Rattle.loom_wires.specs.Built.{with_cavities}
use Rattle.loom_wires.proofs.tests.add_cavities.Given as goal

abbrev pub invariant-loop-node : goal.invariant-loop-node
invariant-loop-node l = with_cavities l.fn.topology l.nodes ≡ with_cavities l.topology (drop l.node-index l.nodes)
