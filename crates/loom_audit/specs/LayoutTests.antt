-- The parts of the test of a layout.
use Rattle.std.specs.Prelude.{ℕ, List, ◌≡◌, ◌⊎◌, ◌<◌, ◌≤◌, ◌*◌, ◌-◌, IsTrue, length, slice_index}
use Rattle.std.specs.List.{AllZip}
use Rattle.loom_topology.specs.Topology.{TopologyView, segment_at, node_of, branch_at}
use Rattle.loom_topology.specs.WiringTree.{Tree, step_at, place_of}

-- a step may go over a segment from a node: it is open, and ends there
abbrev pub IsPassable : TopologyView → ℕ → ℕ → Type 0
IsPassable topology start s =
    IsTrue (segment_at topology s).is_open × (((segment_at topology s).from ≡ start) ⊎ ((segment_at topology s).to ≡ start))

-- a step begins at a point before its own, and may go on from there
abbrev pub IsStepSound : TopologyView → ℕ → Tree → ℕ → Type 0
IsStepSound topology v tree k =
    ((step_at tree k).parent ≤ k) × IsPassable topology (place_of topology v tree (step_at tree k).parent) (step_at tree k).segment

abbrev pub AreStepsSound : TopologyView → ℕ → Tree → Type 0
AreStepsSound topology v tree = (k : ℕ) → k < length tree.steps → IsStepSound topology v tree k

-- a cavity hangs on a point that lies at its node
abbrev pub HangsAt : TopologyView → List ℕ → ℕ → ℕ → Type 0
HangsAt topology places cavity point = (point < length places) × (slice_index places point ≡ node_of topology cavity)

abbrev pub AreHungAt : TopologyView → List ℕ → List ℕ → List ℕ → Type 0
AreHungAt topology places cavities hangs = AllZip (HangsAt topology places) cavities hangs

-- at each of the first points at least two things meet
abbrev pub AreTwoEach : List ℕ → Type 0
AreTwoEach degrees = (point : ℕ) → point < length degrees → 2 ≤ slice_index degrees point

-- what the splice at a point costs, by the places and degrees of the points
abbrev pub splice_cost_at : TopologyView → List ℕ → List ℕ → ℕ → ℕ
splice_cost_at topology places degrees point =
    branch_at topology (slice_index places point) * (slice_index degrees point - 2)
