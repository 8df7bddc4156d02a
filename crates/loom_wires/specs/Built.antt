use Rattle.std.specs.Prelude.{ℕ, List, [], ◌∷◌, Bool, true, false, ◌+◌, ◌==◌, ◌&&◌, ◌||◌, nat_le, fold, length, zero, suc, if◌then◌else◌}
use Rattle.loom_base.specs.declared.positions.CavityNo.{CavityNo}
use Rattle.loom_base.specs.declared.positions.SegmentNo.{SegmentNo}
use Rattle.loom_topology.specs.declared.kind.Kind.{Kind}
use Rattle.loom_topology.specs.declared.kind.Kind.TheVariants.{Run, Coupler}
use Rattle.loom_topology.specs.Topology.{TopologyView, no_topology, with_node, with_segment, with_cavity, segment_at, node_of}
use Rattle.loom_topology.specs.WiringTree.{Tree, step_at, place_of}
use Rattle.loom_topology.specs.TreeCost.{degree_of}
use Rattle.loom_rows.specs.declared.cond.Cond.{Cond}
use Rattle.loom_types.specs.LayoutTree.{tree_of}
use Rattle.loom_wires.specs.declared.laid_set.LaidSet.{LaidSet}
use Rattle.loom_wires.specs.Wires.{numbers_of, first_of, others_of}

-- with nodes of these harnesses and branch costs
abbrev pub with_nodes : TopologyView → List (ℕ × ℕ) → TopologyView
with_nodes topology nodes = fold (λ t n. with_node t n.0 n.1) topology nodes

abbrev pub kind_of : ℕ → ℕ → Kind
kind_of price pins = if pins == 0 then Run price else Coupler price pins

-- with segments of these ends, prices and pins
abbrev pub with_segments : TopologyView → List (ℕ × ℕ × ℕ × ℕ) → TopologyView
with_segments topology segments = fold (λ t s. with_segment t s.0 s.1 (kind_of s.2 s.3)) topology segments

-- with cavities at these nodes
abbrev pub with_cavities : TopologyView → List ℕ → TopologyView
with_cavities topology nodes = fold with_cavity topology nodes

abbrev pub built : List (ℕ × ℕ) → List (ℕ × ℕ × ℕ × ℕ) → List ℕ → TopologyView
built nodes segments cavities = with_cavities (with_segments (with_nodes no_topology nodes) segments) cavities

-- a coupler from the first node, and two runs behind it; a cavity at each end
abbrev pub fork : TopologyView
fork =
    built ((0, 50) ∷ (1, 5) ∷ (1, 5) ∷ (1, 5) ∷ []) ((0, 1, 10, 2) ∷ (1, 2, 100, 0) ∷ (1, 3, 60, 0) ∷ []) (0 ∷ 2 ∷ 3 ∷ [])

-- a set of net 0 with this layout
abbrev pub laid_set : Cond → List CavityNo → List (ℕ × SegmentNo) → List ℕ → LaidSet
laid_set cond cavities steps hangs = record {
  net = record { 0 = 0 };
  mask = 0;
  cond = cond;
  cavities = cavities;
  layout = record { steps = steps; hangs = hangs };
}

-- whether the test passes at each number below this one
abbrev pub all_below : (ℕ → Bool) → ℕ → Bool
all_below test zero = true
all_below test (suc n) = test n && all_below test n

-- whether a step may stand in the tree
abbrev pub is_step : TopologyView → ℕ → Tree → ℕ → Bool
is_step topology v tree k =
    let step = step_at tree k in
    let g = segment_at topology step.segment in
    let start = place_of topology v tree step.parent in
    nat_le step.parent k && (g.is_open && (g.from == start || g.to == start))

-- whether each cavity hangs on a point at its node
abbrev pub are_hung : TopologyView → ℕ → Tree → List ℕ → List ℕ → Bool
are_hung topology v tree [] [] = true
are_hung topology v tree [] (h ∷ hangs) = false
are_hung topology v tree (c ∷ cavities) [] = false
are_hung topology v tree (c ∷ cavities) (h ∷ hangs) =
    (nat_le h (length tree.steps) && place_of topology v tree h == node_of topology c) && are_hung topology v tree cavities hangs

-- whether the cavities are in range
abbrev pub are_cavities : TopologyView → List ℕ → Bool
are_cavities topology [] = true
are_cavities topology (c ∷ cavities) = nat_le (c + 1) (length topology.cavities) && are_cavities topology cavities

-- the test of a set's layout
abbrev pub is_laid : TopologyView → LaidSet → Bool
is_laid topology set =
    let v = node_of topology (first_of set) in
    let tree = tree_of set.layout in
    (nat_le 1 (length set.cavities) && are_cavities topology (numbers_of set))
    && ((all_below (is_step topology v tree) (length tree.steps) && are_hung topology v tree (others_of set) tree.hangs)
    && all_below (λ point. nat_le 2 (degree_of tree point)) (length tree.steps + 1))
