-- What a layout costs, step by step and point by point.
use Rattle.std.proofs.Common.{◌≡◌, ℕ, zero, suc, ◌+◌, ◌-◌, ◌*◌, ◌<◌, ◌≤◌, List, length, map, get_or, slice_index, take, sym, ap, ap₂, ◌∙◌, arith}
use Rattle.std.specs.Int.{sum_through}
use Rattle.std.specs.List.{sum_by}
use Rattle.std.proofs.lemmas.List.{length-map, get_or-map}
use Rattle.std.proofs.lemmas.List.Sums.{sum_by_more}
use Rattle.loom_base.specs.declared.positions.NodeNo.{NodeNo}
use Rattle.loom_base.specs.declared.positions.SegmentNo.{SegmentNo}
use Rattle.loom_topology.specs.Topology.{TopologyView, branch_at, price_at}
use Rattle.loom_topology.specs.WiringTree.{Step, Tree, no_step, places_of}
use Rattle.loom_topology.specs.TreeCost.{splice_cost_of, cost_of}
use Rattle.loom_topology.proofs.Sums.{sum_through-same}
use Rattle.loom_types.specs.LayoutTree.{step_of}
use Rattle.loom_audit.specs.Degrees.{AreDegrees}
use Rattle.loom_audit.specs.LayoutTests.{splice_cost_at}
use Rattle.loom_audit.proofs.PlaceSteps.{length-places_of}

-- the price of one more step
pub price_more : (topology : TopologyView) (items : List (ℕ × SegmentNo)) (k : ℕ) (none : ℕ × SegmentNo) (before price after : ℕ) → k < length items
    → before ≡ sum_by (λ s. price_at topology s.segment) (take k (map step_of items))
    → price ≡ price_at topology (get_or items k none).1.0 → after ≡ before + price
    → after ≡ sum_by (λ s. price_at topology s.segment) (take (k + 1) (map step_of items))
price_more topology items k none before price after within known is added =
    let inside : k < length (map step_of items) = omega (arith, length-map items step_of) in
    let read : price_at topology (get_or (map step_of items) k no_step).segment ≡ price =
    ap (λ (s : Step). price_at topology s.segment) (get_or-map step_of items k none no_step within) ∙ sym is in
    omega (arith, known, added, read, sum_by_more (λ (s : Step). price_at topology s.segment) (map step_of items) k no_step inside)

pub through_first : (f : ℕ → ℕ) (cost : ℕ) → cost ≡ f 0 → cost ≡ sum_through f (1 - 1)
through_first f cost e = e

-- the cost of one more point
pub through_more : (f : ℕ → ℕ) (point before more after : ℕ) → 1 ≤ point → before ≡ sum_through f (point - 1) → more ≡ f point
    → after ≡ before + more → after ≡ sum_through f ((point + 1) - 1)
through_more f zero before more after some known is added = absurd (omega (arith, some))
through_more f (suc k) before more after some known is added =
    let e : (suc k + 1) - 1 ≡ suc k = omega arith in
    let d : suc k - 1 ≡ k = omega arith in
    added ∙ ap₂ (λ (a b : ℕ). a + b) (known ∙ ap (sum_through f) d) is ∙ ap (sum_through f) (sym e)

pub through_end : (f : ℕ → ℕ) (cost point count : ℕ) → cost ≡ sum_through f (point - 1) → point ≡ count → cost ≡ sum_through f (count - 1)
through_end f cost point count known e = known ∙ ap (λ (n : ℕ). sum_through f (n - 1)) e

-- the cost at a point, as it is read
pub splice_read : (topology : TopologyView) (places : List NodeNo) (degrees : List ℕ) (point cost : ℕ) (none : NodeNo) → point < length places
    → cost ≡ branch_at topology (get_or places point none).0 * (get_or degrees point 0 - 2)
    → cost ≡ splice_cost_at topology (map (λ v. v.0) places) degrees point
splice_read topology places degrees point cost none within is =
    is ∙ ap (λ (v : ℕ). branch_at topology v * (get_or degrees point 0 - 2)) (sym (get_or-map (λ v. v.0) places point none 0 within))

-- both together
pub cost_total : (topology : TopologyView) (v : ℕ) (tree : Tree) (places degrees : List ℕ) (prices splices total : ℕ)
    → prices ≡ sum_by (λ s. price_at topology s.segment) tree.steps
    → splices ≡ sum_through (splice_cost_at topology places degrees) (length places - 1)
    → places ≡ places_of topology v tree.steps → AreDegrees tree degrees → total ≡ prices + splices → total ≡ cost_of topology v tree
unfolding cost_of
cost_total topology v tree places degrees prices splices total of_steps of_points are degrees_are sum =
    let long : length places ≡ length tree.steps + 1 = ap length are ∙ length-places_of topology v tree.steps in
    let last : length places - 1 ≡ length tree.steps = omega arith in
    let each : (p : ℕ) → p ≤ length tree.steps → splice_cost_at topology places degrees p ≡ splice_cost_of topology v tree p =
    λ p le.
    ap₂ (λ (u d : ℕ). branch_at topology u * (d - 2)) (ap (λ (l : List ℕ). slice_index l p) are)
    (degrees_are.each p (omega (arith, le, degrees_are.count))) in
    sum
    ∙ ap₂ (λ (a b : ℕ). a + b) of_steps
    (of_points
    ∙ ap (sum_through (splice_cost_at topology places degrees)) last
    ∙ sum_through-same (length tree.steps) (splice_cost_at topology places degrees) (splice_cost_of topology v tree) each)
