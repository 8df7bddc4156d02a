-- How the ways over the marked segments are listed.
use Rattle.std.proofs.Common.{ℕ, List, [], ◌∷◌, ◌++◌, Bool, true, false, length, get_or, map, ◌≡◌, ◌+◌, ◌<◌, refl, sym, ap, ◌∙◌, arith, append-nil}
use Rattle.std.specs.List.{All, filter, range_with_len}
use Rattle.std.proofs.lemmas.List.{map-append}
use Rattle.std.proofs.lemmas.List.Elements.{All-contains, All-filter, All-from_get_or, filter_passes}
use Rattle.std.proofs.lemmas.List.FromFn.{length-range_with_len, get_or-range_with_len}
use Rattle.loom_topology.specs.declared.ways.Way.{Way}
use Rattle.loom_topology.specs.Topology.{TopologyView}
use Rattle.loom_topology.specs.Ways.{MarksCheapest}
use Rattle.loom_topology.proofs.Found.{filter-more, marked_rise}
use Rattle.loom_base.proofs.Contained.{Contains-filter_range}
use Rattle.loom_topology.proofs.Places.{open_below}
use Rattle.loom_potential.specs.Ways.{AreWays, way_over}

-- the marked ones of the first n segments
abbrev marked : List Bool → ℕ → List ℕ
marked marks n = filter (λ s. get_or marks s false) (range_with_len 0 n)

-- the ways over them
abbrev pub listed : TopologyView → List Bool → ℕ → List Way
listed topology marks n = map (way_over topology) (filter (λ s. get_or marks s false) (range_with_len 0 n))

pub listed_more : (topology : TopologyView) (marks : List Bool) (n : ℕ) (ways : List Way) (way : Way) → get_or marks n false ≡ true
    → way ≡ way_over topology n → ways ≡ listed topology marks n → ways ++ way ∷ [] ≡ listed topology marks (n + 1)
listed_more topology marks n ways way mark is before =
    let here : filter (λ s. get_or marks s false) (n ∷ []) ≡ n ∷ [] = rw mark refl in
    ap (λ l. l ++ way ∷ []) before
    ∙ ap (λ w. listed topology marks n ++ w ∷ []) is
    ∙ sym (map-append (way_over topology) (marked marks n) (n ∷ []))
    ∙ ap (λ l. map (way_over topology) (marked marks n ++ l)) (sym here)
    ∙ ap (map (way_over topology)) (sym (filter-more (λ s. get_or marks s false) n))

pub listed_skip : (topology : TopologyView) (marks : List Bool) (n : ℕ) (ways : List Way) → get_or marks n false ≡ false
    → ways ≡ listed topology marks n → ways ≡ listed topology marks (n + 1)
listed_skip topology marks n ways unmarked before =
    let here : filter (λ s. get_or marks s false) (n ∷ []) ≡ [] = rw unmarked refl in
    before
    ∙ ap (map (way_over topology)) (sym (append-nil (marked marks n)) ∙ ap (λ l. marked marks n ++ l) (sym here)
    ∙ sym (filter-more (λ s. get_or marks s false) n))

range-below : (n : ℕ) → All (λ k. k < n) (range_with_len 0 n)
range-below n = All-from_get_or (λ k. k < n) (range_with_len 0 n) 0 (λ i below.
    let within : i < n = omega (arith, length-range_with_len 0 n) in
    omega (arith, get_or-range_with_len 0 n i 0 within))

pub listed_ways : (topology : TopologyView) (marks : List Bool) (n : ℕ) (ways : List Way) → n ≡ length topology.segments
    → MarksCheapest topology marks → ways ≡ listed topology marks n → AreWays topology ways
listed_ways topology marks n ways all marks_cheapest is = record {
  segments = marked marks n;
  rising = marked_rise (λ s. get_or marks s false) n;
  cheapest = λ s. (
    λ there.
        let below : s < n =
        All-contains (λ k. k < n) (marked marks n) s (All-filter (λ k. get_or marks k false) (λ k. k < n) (range_with_len 0 n) (range-below n)) there in
        (marks_cheapest s (omega (arith, below, all))).0
        (All-contains (λ k. get_or marks k false ≡ true) (marked marks n) s (filter_passes (λ k. get_or marks k false) (range_with_len 0 n)) there),
    λ is_cheapest.
        let below : s < length topology.segments = open_below topology s is_cheapest.is_open in
        Contains-filter_range (λ k. get_or marks k false) 0 n s (omega arith) (omega (arith, below, all))
        ((marks_cheapest s below).1 is_cheapest),
  );
  listed = is;
}
