use Rattle.std.proofs.Common.{List, [], ◌∷◌, ℕ, ◌<◌, ◌≡◌, ◌≢◌, length, slice_index, slice_index_or, inl, inr, refl, sym, ap, subst, arith, ◌∙◌}
use Rattle.std.specs.Borrow.{Bor}
use Rattle.std.specs.List.{All}
use Rattle.std.specs.List.Sorted.{IsPermutation}
use Rattle.std.specs.declared.cmp.Reverse.{Reverse}
use Rattle.std.proofs.lemmas.List.{get_or_default}
use Rattle.std.proofs.lemmas.List.Sorted.{Contains-permutation, All-permutation}
use Rattle.std.proofs.lemmas.List.Elements.{All-tail}
use Rattle.std.proofs.lemmas.Map.Made.{Contains-tail}
use Rattle.loom_steiner.specs.declared.worklist.Offer.{Offer}
use Rattle.loom_topology.specs.declared.ways.Way.{Way}
use Rattle.loom_topology.specs.Ways.{way_at}
use Rattle.loom_steiner.specs.Row.{Improves, ImprovesFrom}
use Rattle.loom_steiner.specs.Worklist.{IsSettling, IsSettled, IsSettledAt, IsSettledFrom, KeepsWaiting, offer}
use Rattle.std.proofs.lemmas.Bool.{cases_eq}

-- a worklist is being worked off
pub record Settles (ways : List (Bor (List Way))) (row new : List ℕ) (waiting : List (Reverse Offer)) : Type 0 where
  pub improves : Improves ways row new
  pub settling : IsSettling ways new waiting
  pub offers : All (λ o. o.0.node < length row) waiting

pub empty_from_length : {X : Type 0} (xs : List X) → length xs ≡ 0 → xs ≡ []
empty_from_length [] e = refl
empty_from_length (x ∷ xs) e = absurd (omega arith)

-- the node of a popped offer is in range
pub popped_in_range : (n : ℕ) (waiting rest : List (Reverse Offer)) (popped : Reverse Offer)
    → IsPermutation waiting (popped ∷ rest) → All (λ o. o.0.node < n) waiting → popped.0.node < n
popped_in_range n waiting rest popped permutation offers =
    All-permutation (λ o. o.0.node < n) _ _ permutation offers 0 popped (omega arith)

pub Improves-refl : (ways : List (Bor (List Way))) (row : List ℕ) → Improves ways row row
Improves-refl ways row = record {
  len = refl;
  lower = λ v. omega arith;
  attained = λ topology cavities are_ways attained. attained;
  bounded = λ base bounded. bounded;
}

-- a popped offer of a number that the node no longer has needs no work
pub Settles-stale : (ways : List (Bor (List Way))) (row new : List ℕ) (waiting rest : List (Reverse Offer)) (popped : Reverse Offer)
    → IsPermutation waiting (popped ∷ rest) → popped.0.cost ≢ slice_index new popped.0.node
    → Settles ways row new waiting → Settles ways row new rest
Settles-stale ways row new waiting rest popped permutation stale s = record {
  improves = s.improves;
  settling = λ u h. elim (s.settling u h) [
    | inl waits ↦ inl (Contains-tail popped rest (offer (slice_index new u) u)
        (λ e. stale (ap (λ (o : Reverse Offer). o.0.cost) e ∙ ap (slice_index new) (sym (ap (λ (o : Reverse Offer). o.0.node) e))))
        (Contains-permutation _ _ _ permutation waits))
    | inr at ↦ inr at
  ];
  offers = All-tail (λ (o : Reverse Offer). o.0.node < length row) popped rest
      (All-permutation (λ o. o.0.node < length row) _ _ permutation s.offers);
}

-- once the popped node's ways were tried, it is settled
pub Settles-relaxed : (ways : List (Bor (List Way))) (d : Bor (List Way)) (row new after : List ℕ)
    (waiting rest more : List (Reverse Offer)) (popped : Reverse Offer)
    → IsPermutation waiting (popped ∷ rest) → popped.0.node < length ways
    → ImprovesFrom popped.0.node (slice_index_or ways popped.0.node d).now new after
    → slice_index after popped.0.node ≡ slice_index new popped.0.node
    → IsSettledFrom (slice_index_or ways popped.0.node d).now after (slice_index new popped.0.node)
    → KeepsWaiting new after rest more
    → All (λ o. o.0.node < length row) more
    → Settles ways row new waiting → Settles ways row after more
Settles-relaxed ways d row new after waiting rest more popped permutation range improves own settled keeps offers s =
    let node = popped.0.node in
    let at_node : IsSettledAt ways after node = λ d2.
    subst (λ (cost : ℕ). IsSettledFrom (slice_index_or ways node d2).now after cost) (sym own)
    (subst (λ (from : Bor (List Way)). IsSettledFrom from.now after (slice_index new node)) (get_or_default ways node d d2 range) settled) in
    record {
      improves = record {
        len = improves.len ∙ s.improves.len;
        lower = λ v. omega (arith, improves.lower v, s.improves.lower v);
        attained = λ topology cavities are_ways attained.
            improves.attained topology cavities (are_ways.from node d range) (s.improves.attained topology cavities are_ways attained);
        bounded = λ base bounded. improves.bounded base (s.improves.bounded base bounded);
      };
      settling = λ u h. elim (cases_eq u node) [
        | inl e ↦ inr (subst (λ (w : ℕ). IsSettledAt ways after w) (sym e) at_node)
        | inr n ↦ elim (s.settling u h) [
          | inl waits ↦ inl (keeps.waits u (Contains-tail popped rest (offer (slice_index new u) u)
              (λ e. n (sym (ap (λ (o : Reverse Offer). o.0.node) e)))
              (Contains-permutation _ _ _ permutation waits)))
          | inr at ↦ elim (keeps.fell u) [
            | inl same ↦ inr (λ d2 k within. omega (arith, improves.lower (way_at (slice_index_or ways u d2).now k).to.0, at d2 k within, same))
            | inr waits ↦ inl waits
          ]
        ]
      ];
      offers = offers;
    }

-- an empty worklist has nothing left to do
pub Settles-end : (ways : List (Bor (List Way))) (row new : List ℕ) (waiting : List (Reverse Offer)) → length waiting ≡ 0
    → Settles ways row new waiting → IsSettled ways new
Settles-end ways row new waiting empty s u h = elim (s.settling u h) [
  | inl waits ↦ absurd (omega (arith, waits.1))
  | inr at ↦ at
]
