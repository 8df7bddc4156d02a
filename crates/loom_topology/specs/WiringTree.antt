use Rattle.std.specs.Prelude.{ℕ, List, [], ◌∷◌, ◌++◌, ◌≡◌, ◌⊎◌, ◌<◌, ◌≤◌, ◌==◌, IsTrue, length, slice_index, slice_index_or, if◌then◌else◌, fold}
use Rattle.std.specs.List.{AllZip}
use Rattle.loom_topology.specs.Topology.{TopologyView, Segment, segment_at, node_of}

-- a step over a segment from a point that is there; step k, counted from 0, adds point k + 1
pub record Step : Type 0 where
  pub parent : ℕ
  pub segment : ℕ

-- the steps in order, and for each cavity in order the point on which it hangs
pub record Tree : Type 0 where
  pub steps : List Step
  pub hangs : List ℕ

abbrev pub no_step : Step
no_step = record { parent = 0; segment = 0 }

abbrev pub step_at : Tree → ℕ → Step
step_at tree k = slice_index_or tree.steps k no_step

-- the end of a segment to which it leads from one of its ends
abbrev pub other_end : Segment → ℕ → ℕ
other_end g v = (if g.from == v then g.to else g.from)

-- the nodes at which the points lie, in order: point 0 lies at v, each later one at the other end of its step's segment
unfoldable pub places_of : TopologyView → ℕ → List Step → List ℕ
places_of topology v steps =
    fold (λ placed s. placed ++ other_end (segment_at topology s.segment) (slice_index placed s.parent) ∷ []) (v ∷ []) steps

abbrev pub place_of : TopologyView → ℕ → Tree → ℕ → ℕ
place_of topology v tree point = slice_index (places_of topology v tree.steps) point

-- each step begins at a point before its own and goes over an open segment that has an end there, and each cavity hangs
-- on a point that lies at the cavity's node; there may be any number of steps, and a segment may occur often
pub record IsWiringTree (topology : TopologyView) (cavities : List ℕ) (v : ℕ) (tree : Tree) : Type 0 where
  pub parent : (k : ℕ) → k < length tree.steps → (step_at tree k).parent ≤ k
  pub is_open : (k : ℕ) → k < length tree.steps → IsTrue (segment_at topology (step_at tree k).segment).is_open
  pub begins : (k : ℕ) → k < length tree.steps
      → let g = segment_at topology (step_at tree k).segment in
      let start = place_of topology v tree (step_at tree k).parent in (g.from ≡ start) ⊎ (g.to ≡ start)
  pub hangs : AllZip (λ c point. (point ≤ length tree.steps) × (place_of topology v tree point ≡ node_of topology c))
      cavities tree.hangs
