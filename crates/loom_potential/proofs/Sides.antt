-- The two sides of an inequality, as the code has them.
use Rattle.std.proofs.Common.{ℕ, Option, Some, ◌≡◌, ap, ◌∙◌}
use Rattle.loom_base.specs.declared.positions.SegmentNo.{SegmentNo}
use Rattle.loom_topology.specs.Topology.{TopologyView, segment_at, price_at}
use Rattle.loom_topology.specs.WiringTree.{other_end}
use Rattle.loom_topology.specs.Legal.{plus}
use Rattle.loom_potential.specs.declared.first_break.FirstBreak.{FirstBreak}
use Rattle.loom_potential.specs.declared.first_break.Part.TheVariants.{Over}
use Rattle.loom_base.specs.First.{Check}
use Rattle.loom_potential.specs.FirstBreak.{at_most, over_check}

pub over_is : (topology : TopologyView) (P : ℕ → ℕ → Option ℕ) (mask v : ℕ) (segment : SegmentNo) (left right cell : Option ℕ)
    (end price : ℕ) (answer : Check FirstBreak) → left ≡ P mask v → end ≡ other_end (segment_at topology segment.0) v
    → cell ≡ P mask end → price ≡ price_at topology segment.0 → right ≡ plus cell (Some price)
    → answer ≡ at_most mask v (Over segment) left right → answer ≡ over_check topology P mask v segment.0
over_is topology P mask v segment left right cell end price answer left_is end_is cell_is price_is right_is is =
    let cell_there : cell ≡ P mask (other_end (segment_at topology segment.0) v) = cell_is ∙ ap (P mask) end_is in
    let sum : right ≡ plus (P mask (other_end (segment_at topology segment.0) v)) (Some (price_at topology segment.0)) =
    right_is ∙ (ap (λ x. plus x (Some price)) cell_there
    ∙ ap (λ n. plus (P mask (other_end (segment_at topology segment.0) v)) (Some n)) price_is) in
    is ∙ (ap (λ x. at_most mask v (Over segment) x right) left_is ∙ ap (at_most mask v (Over segment) (P mask v)) sum)
