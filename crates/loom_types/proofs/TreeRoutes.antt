-- Each wire of a layout is routed.
use Rattle.std.proofs.Common.{ℕ, zero, suc, List, [], ◌∷◌, Bool, true, false, cond, length, ◌≡◌, ◌<◌, ◌≤◌, ◌==◌, ◌&&◌, ◌⊎◌, inl, inr, refl, sym, ◌∙◌, subst, arith}
use Rattle.std.specs.Bool.{IsTrue}
use Rattle.std.specs.List.{All, AllZip}
use Rattle.std.proofs.lemmas.Bool.{eqb-true, eqb-false, eq-eqb, and_from, le-leb, cond-true, cond-false}
use Rattle.std.proofs.lemmas.List.Elements.{All-head, All-tail}
use Rattle.loom_topology.proofs.Sound.{sound-cavity}
use Rattle.loom_topology.proofs.Sums.{part-le-sum_through}
use Rattle.loom_topology.proofs.Places.{place-zero, place-suc, step_leads, place_below}
use Rattle.loom_topology.specs.Topology.{TopologyView, Segment, IsSound, Leads, segment_at, price_at, node_of, is_coupler}
use Rattle.loom_topology.specs.WiringTree.{Tree, IsWiringTree, step_at, other_end, place_of}
use Rattle.loom_topology.specs.TreeCost.{degree_of}
use Rattle.loom_types.specs.declared.wire.End.TheVariants.{Cavity}
use Rattle.loom_types.specs.LayoutWires.{Over, Through, is_splice, splice_of, ordinal_of, leg_of, legs_of, hung_of, cut}
use Rattle.loom_types.proofs.Tallies.{one_if}
use Rattle.loom_types.proofs.EndTests.{one_if-true}
use Rattle.loom_types.proofs.TreeLegs.{length-legs, are_legs, all_hung, below-degree}
use Rattle.loom_types.proofs.CarriedWires.{IsCarried, LiesAt, CrossingLeads, LegsLead, IsRoutedOf, carried_from, cut_routed}

leads_back : (topology : TopologyView) (s v u : ℕ) → Leads topology s v u → Leads topology s u v
leads_back topology s v u (is_open, inl (from, to)) = (is_open, inr (from, to))
leads_back topology s v u (is_open, inr (from, to)) = (is_open, inl (from, to))

-- the node at which a step comes out, and the other end of its segment
other_end-from : (g : Segment) (v : ℕ) → (g.from == v) ≡ true → other_end g v ≡ g.to
other_end-from g v first = cond-true (g.from == v) g.to g.from first

other_end-to : (g : Segment) (v : ℕ) → (g.from == v) ≡ false → other_end g v ≡ g.from
other_end-to g v second = cond-false (g.from == v) g.to g.from second

to_from_begins : (g : Segment) (v : ℕ) → (g.from == v) ≡ false → (g.from ≡ v) ⊎ (g.to ≡ v) → g.to ≡ v
to_from_begins g v second (inl from) = absurd (eqb-false g.from v second from)
to_from_begins g v second (inr to) = to

-- a step over a segment leads back to its parent's node
crossing_leads : (topology : TopologyView) (start end s pin : ℕ) → IsTrue (segment_at topology s).is_open
    → ((segment_at topology s).from ≡ start) ⊎ ((segment_at topology s).to ≡ start) → end ≡ other_end (segment_at topology s) start
    → Leads topology s end start → (coupler first : Bool)
    → is_coupler (segment_at topology s).kind ≡ coupler → ((segment_at topology s).from == start) ≡ first
    → CrossingLeads topology end start (cond coupler (cond first (Through s pin 1 2) (Through s pin 2 1)) (Over s (price_at topology s)))
crossing_leads topology start end s pin is_open begins at_end leads true true kind first = (
  ((is_open, kind, inr refl), sym (at_end ∙ other_end-from (segment_at topology s) start first)),
  ((is_open, kind, inl refl), eqb-true (segment_at topology s).from start first),
)
crossing_leads topology start end s pin is_open begins at_end leads true false kind second = (
  ((is_open, kind, inl refl), sym (at_end ∙ other_end-to (segment_at topology s) start second)),
  ((is_open, kind, inr refl), to_from_begins (segment_at topology s) start second begins),
)
crossing_leads topology start end s pin is_open begins at_end leads false first kind which = ((kind, leads), refl)

zip_with_all : (Q : ℕ → Type 0) (R : ℕ → ℕ → Type 0) (xs ys : List ℕ) → All Q xs → AllZip R xs ys → AllZip (λ x y. Q x × R x y) xs ys
zip_with_all Q R [] [] all zip = zip
zip_with_all Q R [] (y ∷ ys) all zip = absurd zip
zip_with_all Q R (x ∷ xs) [] all zip = absurd zip
zip_with_all Q R (x ∷ xs) (y ∷ ys) all zip =
    ((All-head Q x xs all, zip.0), zip_with_all Q R xs ys (All-tail Q x xs all) zip.1)

module _ (topology : TopologyView) (pins : ℕ → ℕ → ℕ) (tree : Tree) (stem : ℕ) (cavities : List ℕ)
    (wiring : IsWiringTree topology cavities (node_of topology stem) tree) (net : ℕ) where
  abbrev at : ℕ → ℕ
  at p = place_of topology (node_of topology stem) tree p

  legs_lead : (n : ℕ) → n ≤ length tree.steps → LegsLead topology at (legs_of topology (node_of topology stem) pins tree n)
  legs_lead zero within = tt
  legs_lead (suc n) within =
      let v = node_of topology stem in
      let s = (step_at tree n).segment in
      let start = at (step_at tree n).parent in
      let one : CrossingLeads topology (at (suc n)) start (leg_of topology v pins tree n).crossing =
      crossing_leads topology start (at (suc n)) s (pins s (ordinal_of tree n)) (wiring.is_open n (omega arith))
      (wiring.begins n (omega arith)) (place-suc topology v tree n (omega arith) (wiring.parent n (omega arith)))
      (leads_back topology s start (at (suc n)) (step_leads topology cavities v tree wiring n (omega arith)))
      (is_coupler (segment_at topology s).kind) ((segment_at topology s).from == start) refl refl in (
        subst (λ k. CrossingLeads topology (at (suc k)) start (leg_of topology v pins tree n).crossing)
            (sym (length-legs topology v pins tree n)) one,
        legs_lead n (omega arith),
      )

  splice_lies : IsSound topology → stem < length topology.cavities → (p : ℕ) → p ≤ length tree.steps → is_splice tree p ≡ true
      → LiesAt topology (at p) (splice_of topology (node_of topology stem) tree p)
  splice_lies sound stem_within p within splice =
      let v = node_of topology stem in
      let counts = one_if-true (is_splice tree p && at p == at p)
      (and_from (is_splice tree p) (at p == at p) splice (eq-eqb (at p) (at p) refl)) in
      let part = part-le-sum_through p p (λ k. one_if (is_splice tree k && at k == at p)) (omega arith) in (
        (place_below topology cavities v tree wiring sound (sound-cavity topology sound stem stem_within) p within, omega (arith, counts, part)),
        refl,
      )

  pub tree_wires_routed : IsSound topology → All (λ c. c < length topology.cavities) (stem ∷ cavities)
      → ((p : ℕ) → p ≤ length tree.steps → 2 ≤ degree_of tree p)
      → All (IsRoutedOf topology net) (cut net (splice_of topology (node_of topology stem) tree) (Cavity (record { 0 = stem }))
      (hung_of cavities tree.hangs) (legs_of topology (node_of topology stem) pins tree (length tree.steps)))
  tree_wires_routed sound ranges degrees =
      let v = node_of topology stem in
      let n = length tree.steps in
      let count = length-legs topology v pins tree n in
      let stem_within = All-head (λ c. c < length topology.cavities) stem cavities ranges in
      let carried = all_hung _ (λ h. IsCarried topology (at h.point) h.thread) cavities tree.hangs
      (λ c h r. carried_from topology net (at h) (Cavity (record { 0 = c })) (r.0, sym r.1.1))
      (zip_with_all (λ c. c < length topology.cavities) _ cavities tree.hangs
      (All-tail (λ c. c < length topology.cavities) stem cavities ranges) wiring.hangs) in
      cut_routed topology net (splice_of topology v tree) (Cavity (record { 0 = stem })) at (hung_of cavities tree.hangs)
      (legs_of topology v pins tree n) (are_legs topology v pins tree n wiring.parent) (legs_lead n (omega arith)) carried
      (λ p within many.
      let small : p ≤ n = omega (arith, within, count) in
      splice_lies sound stem_within p small
      (le-leb 3 (degree_of tree p) (omega (
        arith,
        many,
        degrees p small,
        below-degree topology v pins tree _ cavities wiring.hangs p,
      ))))
      (stem_within, sym (place-zero topology v tree))
