-- The inequalities over the ways hold exactly where those over all open segments do.
use Rattle.std.proofs.Common.{ℕ, List, Option, Some, None, Ok, length, ◌≡◌, ◌<◌, ◌≤◌, inl, inr, sym, ◌∙◌, subst, arith}
use Rattle.loom_topology.specs.Topology.{TopologyView, IsSound, Leads, segment_at, price_at, open_among, is_open_to}
use Rattle.loom_topology.specs.WiringTree.{other_end}
use Rattle.loom_topology.specs.Legal.{IsAtMost, plus}
use Rattle.loom_topology.specs.declared.ways.Way.{Way}
use Rattle.loom_topology.specs.Ways.{way_at}
use Rattle.loom_topology.proofs.OpenAt.{open_leads, leads_back}
use Rattle.loom_potential.specs.declared.first_break.Part.TheVariants.{Over}
use Rattle.loom_potential.specs.FirstBreak.{over_check, over_checks}
use Rattle.loom_potential.specs.Ways.{AreWays, HoldsOver}
use Rattle.loom_potential.proofs.Checks.{every_filter-from_each}
use Rattle.loom_potential.proofs.Legality.{at_most-passes, over_passed-holds}
use Rattle.loom_potential.proofs.WayEnds.{way_leads, way_covers, way_from_below, way_to_below}

-- a greater price makes the right side no less
at_most-dearer : (left cell : Option ℕ) (price dearer : ℕ) → price ≤ dearer → IsAtMost left (plus cell (Some price))
    → IsAtMost left (plus cell (Some dearer))
at_most-dearer left None price dearer more holds = tt
at_most-dearer None (Some n) price dearer more holds = absurd holds
at_most-dearer (Some m) (Some n) price dearer more holds = omega (arith, more, holds)

-- a way between the two nodes of a segment, from either of them
holds_between : (topology : TopologyView) (P : ℕ → ℕ → Option ℕ) (mask : ℕ) (way : Way) (s v u : ℕ) → HoldsOver P mask way
    → Leads topology s way.from.0 way.to.0 → Leads topology s v u → IsAtMost (P mask v) (plus (P mask u) (Some way.price))
holds_between topology P mask way s v u holds leads at = elim leads.1 [
  | inl a ↦ elim at.1 [
    | inl b ↦ between way.from.0 way.to.0 (sym a.0 ∙ b.0) (sym a.1 ∙ b.1) holds.0
    | inr b ↦ between way.to.0 way.from.0 (sym a.1 ∙ b.1) (sym a.0 ∙ b.0) holds.1
  ]
  | inr a ↦ elim at.1 [
    | inl b ↦ between way.to.0 way.from.0 (sym a.0 ∙ b.0) (sym a.1 ∙ b.1) holds.1
    | inr b ↦ between way.from.0 way.to.0 (sym a.1 ∙ b.1) (sym a.0 ∙ b.0) holds.0
  ]
]
  where
    between : (w x : ℕ) → w ≡ v → x ≡ u → IsAtMost (P mask w) (plus (P mask x) (Some way.price))
        → IsAtMost (P mask v) (plus (P mask u) (Some way.price))
    between w x here there holds =
        subst (λ n. IsAtMost (P mask v) (plus (P mask n) (Some way.price))) there
        (subst (λ n. IsAtMost (P mask n) (plus (P mask x) (Some way.price))) here holds)

pub over_from_ways : (topology : TopologyView) (ways : List Way) (P : ℕ → ℕ → Option ℕ) (mask v : ℕ) → AreWays topology ways
    → ((k : ℕ) → k < length ways → HoldsOver P mask (way_at ways k)) → over_checks topology P mask v ≡ Ok tt
unfolding over_checks open_among
over_from_ways topology ways P mask v are_ways holds =
    every_filter-from_each (over_check topology P mask v) (λ s. is_open_to (segment_at topology s) v) 0 (length topology.segments)
    (λ s from to is_open.
    let leads = open_leads topology s v is_open in
    let cover = way_covers topology ways s v (other_end (segment_at topology s) v) are_ways leads in
    let k = cover.place in
    at_most-passes mask v (Over (record { 0 = s })) (P mask v) (plus (P mask (other_end (segment_at topology s) v)) (Some (price_at topology s)))
    (at_most-dearer (P mask v) (P mask (other_end (segment_at topology s) v)) (way_at ways k).price (price_at topology s) cover.price
    (holds_between topology P mask (way_at ways k) s v (other_end (segment_at topology s) v) (holds k cover.within) cover.leads leads)))

pub ways_from_over : (topology : TopologyView) (ways : List Way) (P : ℕ → ℕ → Option ℕ) (mask k : ℕ) → IsSound topology
    → AreWays topology ways → ((v : ℕ) → v < length topology.nodes → over_checks topology P mask v ≡ Ok tt) → k < length ways
    → HoldsOver P mask (way_at ways k)
ways_from_over topology ways P mask k sound are_ways passed within =
    let way = way_leads topology ways k are_ways within in
    let s = way.segment in
    let leads = way.leads in
    let cost = way.price in
    let back = leads_back topology s (way_at ways k).from.0 (way_at ways k).to.0 leads in
    let there = over_passed-holds topology P mask (way_at ways k).from.0 s (way_at ways k).to.0 leads
    (passed (way_at ways k).from.0 (way_from_below topology ways k sound are_ways within)) in
    let again = over_passed-holds topology P mask (way_at ways k).to.0 s (way_at ways k).from.0 back
    (passed (way_at ways k).to.0 (way_to_below topology ways k sound are_ways within)) in (
      subst (λ n. IsAtMost (P mask (way_at ways k).from.0) (plus (P mask (way_at ways k).to.0) (Some n))) (sym cost) there,
      subst (λ n. IsAtMost (P mask (way_at ways k).to.0) (plus (P mask (way_at ways k).from.0) (Some n))) (sym cost) again,
    )
