use Rattle.std.proofs.Common.{ap, ◌≡◌, ◌≤◌, length, arith}
use Rattle.loom_topology.specs.Topology.{TopologyView, Node}
use Rattle.loom_topology.specs.TopologyInside.{view_of, node_of_data}
use Rattle.loom_topology.proofs.Seen.{All-seen}
use Rattle.loom_topology.proofs.topology.Topology.branch.Goals as goal

pub returns-clause-range : goal.returns-clause-range
returns-clause-range c =
    let nodes : length (view_of c.self.inside).nodes ≡ length c.args.self.now.nodes = ap (λ (t : TopologyView). length t.nodes) c.self.view_is in
    All-seen node_of_data (λ (node : Node). node.branch ≤ 1000000) c.self.inside.nodes.items c.args.node.0 c.index.result.now
    (omega (arith, nodes, c.requires)) c.index.ensures c.self.invariant.sound.branches
