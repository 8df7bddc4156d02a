use Rattle.std.specs.Prelude.{ℕ, List, ◌≡◌, ◌<◌, length, map}
use Rattle.loom_topology.specs.declared.topology.NodeData.{NodeData}
use Rattle.loom_topology.specs.declared.topology.Link.{Link}
use Rattle.loom_topology.specs.declared.topology.Topology.TheInside.{Inside}
use Rattle.loom_topology.specs.Topology.{TopologyView, Node, Segment, IsSound, open_among}
use Rattle.loom_topology.specs.Incidence.{list_at}

abbrev pub node_of_data : NodeData → Node
node_of_data kept = record { harness = kept.harness; branch = kept.branch }

abbrev pub segment_of_link : Link → Segment
segment_of_link link =
    record { from = link.from.0; to = link.to.0; kind = link.kind; is_open = link.is_open }

abbrev pub view_of : Inside → TopologyView
view_of t =
    record {
      nodes = map node_of_data t.nodes.items;
      segments = map segment_of_link t.links.items;
      cavities = map (λ c. c.0) t.cavities.items;
    }

-- each node has its list, which holds the open segments at it
pub record IsIndexed (incidence : List (List ℕ)) (node_count : ℕ) (segments : List Segment) : Type 0 where
  pub count : length incidence ≡ node_count
  pub lists : (v : ℕ) → v < node_count → list_at incidence v ≡ open_among segments v

-- what is kept inside a topology: it is sound, and the lists are those of its open segments
pub record IsKept (topology : TopologyView) (incidence : List (List ℕ)) : Type 0 where
  pub sound : IsSound topology
  pub indexed : IsIndexed incidence (length topology.nodes) topology.segments
