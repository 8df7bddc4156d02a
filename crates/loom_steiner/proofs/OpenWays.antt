-- The ways over the marked segments at a node.
use Rattle.std.proofs.Common.{List, [], ◌∷◌, ◌++◌, ℕ, Bool, false, IsTrue, ◌+◌, ◌<◌, ◌≤◌, ◌≡◌, length, slice_index, get_or, inl, inr, refl, sym, ap, subst, arith, ◌∙◌}
use Rattle.std.proofs.lemmas.Bool.{cases_eq, both_ways}
use Rattle.std.proofs.lemmas.List.{length-append, get_or_append_left, get_or_push}
use Rattle.std.proofs.lemmas.List.Elements.{All-push}
use Rattle.loom_topology.specs.declared.ways.Way.{Way}
use Rattle.loom_topology.specs.Topology.{TopologyView, Leads, segment_at, open_at}
use Rattle.loom_topology.specs.WiringTree.{other_end}
use Rattle.loom_topology.specs.Ways.{AreInRange, MarksCheapest, way_at, way_from, no_way}
use Rattle.loom_topology.proofs.Leads.{below-from_Leads}
use Rattle.loom_topology.proofs.CheapestSegments.{nth-leads, nth-from_leads, some_cheapest}
use Rattle.loom_steiner.specs.Ways.{AreWaysFrom}

-- the k-th open segment at a node
abbrev pub nth : TopologyView → ℕ → ℕ → ℕ
nth topology v k = slice_index (open_at topology v) k

-- the ways over those of the first open segments at a node that are marked
pub record Takes (topology : TopologyView) (v done : ℕ) (marks : List Bool) (ways : List Way) : Type 0 where
  pub from : (j : ℕ) → j < length ways → (s : ℕ) × Leads topology s v (other_end (segment_at topology s) v) × (way_at ways j ≡ way_from topology v s)
  pub taken : (k : ℕ) → k < done → IsTrue (get_or marks (nth topology v k) false)
      → (j : ℕ) × (j < length ways) × (way_at ways j ≡ way_from topology v (nth topology v k))
  pub range : AreInRange (length topology.nodes) ways

pub takes_none : (topology : TopologyView) (v : ℕ) (marks : List Bool) → Takes topology v 0 marks []
takes_none topology v marks = record {
  from = λ j below. absurd (omega (arith, below));
  taken = λ k below. absurd (omega (arith, below));
  range = λ k d below. absurd (omega (arith, below));
}

pub takes_skip : (topology : TopologyView) (v done : ℕ) (marks : List Bool) (ways : List Way)
    → get_or marks (nth topology v done) false ≡ false → Takes topology v done marks ways → Takes topology v (done + 1) marks ways
takes_skip topology v done marks ways unmarked t = record {
  from = t.from;
  taken = λ k below marked. elim (cases_eq k done) [
    | inl e ↦ absurd (both_ways (get_or marks (nth topology v done) false) unmarked
        (subst (λ j. IsTrue (get_or marks (nth topology v j) false)) e marked))
    | inr other ↦ t.taken k (omega arith) marked
  ];
  range = t.range;
}

pub takes_more : (topology : TopologyView) (v done : ℕ) (marks : List Bool) (ways : List Way) (way : Way)
    → done < length (open_at topology v) → way ≡ way_from topology v (nth topology v done)
    → v < length topology.nodes → way.to.0 < length topology.nodes → way.price ≤ 1000000
    → Takes topology v done marks ways → Takes topology v (done + 1) marks (ways ++ way ∷ [])
takes_more topology v done marks ways way within is node to_in_range cheap t =
    let longer : length (ways ++ way ∷ []) ≡ length ways + 1 = length-append ways (way ∷ []) in
    let last : way_at (ways ++ way ∷ []) (length ways) ≡ way = get_or_push ways way no_way (length ways) refl in
    record {
      from = λ j below. elim (cases_eq j (length ways)) [
        | inl e ↦ (nth topology v done, nth-leads topology v done within, ap (way_at (ways ++ way ∷ [])) e ∙ last ∙ is)
        | inr other ↦
            let front : j < length ways = omega (arith, below, longer, other) in
            let (s, leads, at) = t.from j front in
            (s, leads, get_or_append_left ways (way ∷ []) no_way j front ∙ at)
      ];
      taken = λ k below marked. elim (cases_eq k done) [
        | inl e ↦ (length ways, omega (arith, longer), last ∙ is ∙ ap (λ j. way_from topology v (nth topology v j)) (sym e))
        | inr other ↦
            let (j, front, at) = t.taken k (omega arith) marked in
            (j, omega (arith, front, longer), get_or_append_left ways (way ∷ []) no_way j front ∙ at)
      ];
      range = All-push (λ w. (w.from.0 < length topology.nodes) × (w.to.0 < length topology.nodes) × (w.price ≤ 1000000)) ways way t.range
          (subst (λ (w : Way). w.from.0 < length topology.nodes) (sym is) node, to_in_range, cheap);
    }

-- once all open segments were looked at
pub takes_ways : (topology : TopologyView) (v done : ℕ) (marks : List Bool) (ways : List Way) → MarksCheapest topology marks
    → length (open_at topology v) ≤ done → Takes topology v done marks ways → AreWaysFrom topology v ways
takes_ways topology v done marks ways marked all t = record {
  leads = λ j below.
      let (s, leads, at) = t.from j below in
      (s, subst (λ (w : Way). Leads topology s v w.to.0) (sym at) leads, ap (λ (w : Way). w.price) at);
  covers = λ s u leads.
      let (c, is_cheapest, there, price) = some_cheapest topology s v u leads in
      let n = nth-from_leads topology c v u there in
      let mark : IsTrue (get_or marks c false) = (marked c (below-from_Leads topology c v u there)).1 is_cheapest in
      let (j, below, at) = t.taken n.place (omega (arith, n.within, all)) (subst (λ k. IsTrue (get_or marks k false)) (sym n.same) mark) in
      (j, below, ap (λ (w : Way). w.to.0) at ∙ n.end, omega (arith, ap (λ (w : Way). w.price) at, n.price, price));
}
