-- The cost of wires, counted from the last to the first.
use Rattle.std.proofs.Common.{ℕ, ◌≡◌, ◌+◌, ◌-◌, ◌^◌, ◌<◌, List, [], ◌∷◌, ◌++◌, Option, Some, None, length, get_or, drop, min, sym, ap, ◌∙◌, arith, sum_by}
use Rattle.std.specs.List.{filter_map, slice_get}
use Rattle.std.specs.HashMap.{HashMap}
use Rattle.std.specs.declared.hash.FoldHasher.{FoldHasher}
use Rattle.std.specs.declared.hash.BuildHasherDefault.{BuildHasherDefault}
use Rattle.std.proofs.lemmas.List.{drop_more}
use Rattle.std.proofs.lemmas.List.Elements.{filter_map-append}
use Rattle.std.proofs.lemmas.List.Sums.{sum_by-cons}
use Rattle.loom_topology.specs.Topology.{TopologyView}
use Rattle.loom_types.specs.declared.plan.Plan.{Plan}
use Rattle.loom_types.specs.declared.wire.Wire.{Wire}
use Rattle.loom_types.specs.WireCost.{Point, point_of, points_of, wires_cost}
use Rattle.loom_audit.specs.PointCounts.{cost_with, ends_at, ArePointCounts}
use Rattle.loom_audit.specs.SetWires.{wires_at}
use Rattle.loom_audit.proofs.PointCosts.{points_cost, cost_more}

-- what is counted of wires, and their cost up to the greatest number of 128 bits
pub record IsCounted (topology : TopologyView) (ws : List Wire) (counts : HashMap (ℕ × ℕ × ℕ × ℕ) ℕ (BuildHasherDefault FoldHasher)) (cost : ℕ) : Type 0 where
  pub counts_are : ArePointCounts (points_of ws) counts
  pub cost_is : cost ≡ min (wires_cost topology ws) (2 ^ 128 - 1)

capped_sums : (M total length_ to from cost one two three after : ℕ) → cost ≡ min total M → one ≡ min (cost + length_) M → two ≡ min (one + to) M
    → three ≡ min (two + from) M → after ≡ total + (length_ + (to + from)) → three ≡ min after M
capped_sums M total length_ to from cost one two three after is a b c sum = omega (arith, is, a, b, c, sum)

-- a wire more
pub wire_counted : (topology : TopologyView) (ws : List Wire) (w : Wire) (counts once twice : HashMap (ℕ × ℕ × ℕ × ℕ) ℕ (BuildHasherDefault FoldHasher))
    (cost to from one two three : ℕ) → IsCounted topology ws counts cost
    → to + cost_with topology (ends_at counts (point_of w.to)) (point_of w.to) ≡ cost_with topology (ends_at counts (point_of w.to) + 1) (point_of w.to)
    → ((points : List Point) → ArePointCounts points counts → ArePointCounts (point_of w.to ∷ points) once)
    → from + cost_with topology (ends_at once (point_of w.from)) (point_of w.from) ≡ cost_with topology (ends_at once (point_of w.from) + 1) (point_of w.from)
    → ((points : List Point) → ArePointCounts points once → ArePointCounts (point_of w.from ∷ points) twice)
    → one ≡ min (cost + w.length) (2 ^ 128 - 1) → two ≡ min (one + to) (2 ^ 128 - 1) → three ≡ min (two + from) (2 ^ 128 - 1)
    → IsCounted topology (w ∷ ws) twice three
wire_counted topology ws w counts once twice cost to from one two three before adds_to more_to adds_from more_from a b c =
    let ps = points_of ws in
    let known_to = more_to ps before.counts_are in
    let first : points_cost topology (point_of w.to ∷ ps) ≡ points_cost topology ps + to =
    cost_more topology (point_of w.to) ps (ends_at counts (point_of w.to)) to (before.counts_are (point_of w.to)) adds_to in
    let second : points_cost topology (point_of w.from ∷ point_of w.to ∷ ps) ≡ points_cost topology (point_of w.to ∷ ps) + from =
    cost_more topology (point_of w.from) (point_of w.to ∷ ps) (ends_at once (point_of w.from)) from (known_to (point_of w.from)) adds_from in
    let lengths : sum_by (λ (x : Wire). x.length) (w ∷ ws) ≡ w.length + sum_by (λ (x : Wire). x.length) ws = sum_by-cons (λ (x : Wire). x.length) w ws in
    let total : wires_cost topology (w ∷ ws) ≡ wires_cost topology ws + (w.length + (to + from)) = omega (arith, lengths, first, second) in
    record {
      counts_are = more_from (point_of w.to ∷ ps) known_to;
      cost_is = capped_sums (2 ^ 128 - 1) (wires_cost topology ws) w.length to from cost one two three (wires_cost topology (w ∷ ws)) before.cost_is a b c total;
    }

module _ (plan : Plan) (positions : List ℕ) (k p : ℕ) (within : k < length positions) (at : p ≡ get_or positions k 0) where
  split : wires_at plan (drop k positions) ≡ wires_at plan (p ∷ []) ++ wires_at plan (drop (k + 1) positions)
  split =
      ap (wires_at plan) (drop_more positions k 0 within ∙ ap (λ (n : ℕ). n ∷ drop (k + 1) positions) (sym at))
      ∙ filter_map-append (slice_get plan.wires) (p ∷ []) (drop (k + 1) positions)

  pub wires-found : (w : Wire) → slice_get plan.wires p ≡ Some w → wires_at plan (drop k positions) ≡ w ∷ wires_at plan (drop (k + 1) positions)
  wires-found w is =
      split
      ∙ ap (λ (o : Option Wire). filter_map (λ (x : Option Wire). x) (o ∷ []) ++ wires_at plan (drop (k + 1) positions)) is

  pub wires-skipped : slice_get plan.wires p ≡ None → wires_at plan (drop k positions) ≡ wires_at plan (drop (k + 1) positions)
  wires-skipped is =
      split
      ∙ ap (λ (o : Option Wire). filter_map (λ (x : Option Wire). x) (o ∷ []) ++ wires_at plan (drop (k + 1) positions)) is
