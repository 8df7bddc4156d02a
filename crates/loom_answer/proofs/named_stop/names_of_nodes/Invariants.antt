use Rattle.std.proofs.Common.{◌≡◌, map, take}
use Rattle.loom_answer.specs.Stops.{node_name}
use Rattle.loom_answer.proofs.named_stop.names_of_nodes.Given as goal

abbrev pub invariant-loop-node : goal.invariant-loop-node
invariant-loop-node l = l.names ≡ map (λ node. node_name l.draft node.0) (take l.node-index l.nodes)
