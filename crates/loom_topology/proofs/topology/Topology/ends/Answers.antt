use Rattle.std.proofs.Common.{ap, ◌≡◌, length, arith}
use Rattle.loom_topology.specs.Topology.{TopologyView, IsSoundSegment}
use Rattle.loom_topology.specs.TopologyInside.{view_of, segment_of_link}
use Rattle.loom_topology.proofs.Seen.{All-seen}
use Rattle.loom_topology.proofs.topology.Topology.ends.Goals as goal

sound : (c : goal.After-result-2-1) → IsSoundSegment (length (view_of c.self.inside).nodes) (segment_of_link c.index-link.result.now)
sound c =
    let segments : length (view_of c.self.inside).segments ≡ length c.args.self.now.segments = ap (λ (t : TopologyView). length t.segments) c.self.view_is in
    All-seen segment_of_link (IsSoundSegment (length (view_of c.self.inside).nodes)) c.self.inside.links.items c.args.segment.0 c.index-link.result.now
    (omega (arith, segments, c.requires)) c.index-link.ensures c.self.invariant.sound.segments

pub returns-clause-from_in_range : goal.returns-clause-from_in_range
returns-clause-from_in_range c =
    omega (arith, (sound c).from_below, ap (λ (t : TopologyView). length t.nodes) c.self.view_is)

pub returns-clause-to_in_range : goal.returns-clause-to_in_range
returns-clause-to_in_range c =
    omega (arith, (sound c).to_below, ap (λ (t : TopologyView). length t.nodes) c.self.view_is)
