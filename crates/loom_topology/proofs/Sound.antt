-- Segments and cavities of a sound topology end and lie at its nodes.
use Rattle.std.proofs.Common.{ℕ, length, ◌<◌}
use Rattle.std.proofs.lemmas.List.Elements.{All-get_or}
use Rattle.loom_topology.specs.Topology.{TopologyView, IsSound, IsSoundSegment, no_segment, segment_at, node_of}

sound_segment : (topology : TopologyView) → IsSound topology → (s : ℕ) → s < length topology.segments
    → IsSoundSegment (length topology.nodes) (segment_at topology s)
sound_segment topology sound s within =
    All-get_or (IsSoundSegment (length topology.nodes)) topology.segments s no_segment within sound.segments

pub sound-from : (topology : TopologyView) → IsSound topology → (s : ℕ) → s < length topology.segments
    → (segment_at topology s).from < length topology.nodes
sound-from topology sound s within = (sound_segment topology sound s within).from_below

pub sound-to : (topology : TopologyView) → IsSound topology → (s : ℕ) → s < length topology.segments
    → (segment_at topology s).to < length topology.nodes
sound-to topology sound s within = (sound_segment topology sound s within).to_below

pub sound-cavity : (topology : TopologyView) → IsSound topology → (c : ℕ) → c < length topology.cavities
    → node_of topology c < length topology.nodes
sound-cavity topology sound c within = All-get_or (λ v. v < length topology.nodes) topology.cavities c 0 within sound.cavities
