use Rattle.std.proofs.Common.{◌≡◌, drop}
use Rattle.loom_wires.specs.Built.{with_nodes}
use Rattle.loom_wires.proofs.tests.add_nodes.Given as goal

abbrev pub invariant-loop-harness : goal.invariant-loop-harness
invariant-loop-harness l = with_nodes l.fn.topology l.nodes ≡ with_nodes l.topology (drop l.harness-index l.nodes)
