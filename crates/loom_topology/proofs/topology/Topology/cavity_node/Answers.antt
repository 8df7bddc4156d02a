use Rattle.std.proofs.Common.{ap, ◌≡◌, ◌<◌, length, arith, ℕ}
use Rattle.loom_topology.specs.Topology.{TopologyView}
use Rattle.loom_topology.specs.TopologyInside.{view_of}
use Rattle.loom_topology.proofs.Seen.{All-seen}
use Rattle.loom_topology.proofs.topology.Topology.cavity_node.Goals as goal

pub returns-clause-in_range : goal.returns-clause-in_range
returns-clause-in_range c =
    let cavities : length (view_of c.self.inside).cavities ≡ length c.args.self.now.cavities = ap (λ (t : TopologyView). length t.cavities) c.self.view_is in
    let nodes : length (view_of c.self.inside).nodes ≡ length c.args.self.now.nodes = ap (λ (t : TopologyView). length t.nodes) c.self.view_is in
    let below : c.index.result.now.0 < length (view_of c.self.inside).nodes =
    All-seen (λ v. v.0) (λ (v : ℕ). v < length (view_of c.self.inside).nodes) c.self.inside.cavities.items c.args.cavity.0 c.index.result.now
    (omega (arith, cavities, c.requires)) c.index.ensures c.self.invariant.sound.cavities in
    omega (arith, below, nodes)
