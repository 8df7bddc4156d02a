use Rattle.std.proofs.Common.{List, ◌∷◌, ℕ, ◌+◌, ◌<◌, ◌⊎◌, length, slice_index, slice_index_or, inl, inr, sym, subst, arith}
use Rattle.std.specs.Borrow.{Bor}
use Rattle.std.specs.List.{All, Contains}
use Rattle.std.specs.List.Sorted.{IsPermutation}
use Rattle.std.specs.declared.cmp.Reverse.{Reverse}
use Rattle.std.proofs.lemmas.List.{get_or_default}
use Rattle.std.proofs.lemmas.List.Sorted.{Contains-permutation, All-permutation}
use Rattle.std.proofs.lemmas.List.Elements.{All-cons}
use Rattle.loom_steiner.specs.declared.worklist.Offer.{Offer}
use Rattle.loom_topology.specs.declared.ways.Way.{Way}
use Rattle.loom_steiner.specs.Worklist.{IsSettledAt, IsSettledFrom, offer}
use Rattle.std.proofs.lemmas.Bool.{cases_eq}
use Rattle.loom_steiner.proofs.Relaxing.{Contains-here, Contains-more}

pub settled_at : (ways : List (Bor (List Way))) (d : Bor (List Way)) (row : List ℕ) (node : ℕ) → node < length ways
    → IsSettledFrom (slice_index_or ways node d).now row (slice_index row node) → IsSettledAt ways row node
settled_at ways d row node range settled e =
    subst (λ (from : Bor (List Way)). IsSettledFrom from.now row (slice_index row node)) (get_or_default ways node d e range) settled

-- the first nodes are settled or wait
pub record Starts (ways : List (Bor (List Way))) (row : List ℕ) (done : ℕ) (waiting : List (Reverse Offer)) : Type 0 where
  pub known : (u : ℕ) → u < done → Contains waiting (offer (slice_index row u) u) ⊎ IsSettledAt ways row u
  pub offers : All (λ o. o.0.node < length row) waiting

pub Starts-push : (ways : List (Bor (List Way))) (row : List ℕ) (node : ℕ) (waiting pushed : List (Reverse Offer)) → node < length row
    → IsPermutation (offer (slice_index row node) node ∷ waiting) pushed
    → Starts ways row node waiting → Starts ways row (node + 1) pushed
Starts-push ways row node waiting pushed range permutation s = record {
  known = λ u h. elim (cases_eq u node) [
    | inl e ↦ inl (subst (λ (w : ℕ). Contains pushed (offer (slice_index row w) w)) (sym e)
        (Contains-permutation _ _ _ permutation (Contains-here (offer (slice_index row node) node) waiting)))
    | inr n ↦ elim (s.known u (omega arith)) [
      | inl waits ↦ inl (Contains-permutation _ _ _ permutation
          (Contains-more (offer (slice_index row node) node) waiting (offer (slice_index row u) u) waits))
      | inr at ↦ inr at
    ]
  ];
  offers = All-permutation (λ o. o.0.node < length row) _ _ permutation
      (All-cons (λ (o : Reverse Offer). o.0.node < length row) (offer (slice_index row node) node) waiting range s.offers);
}

pub Starts-keep : (ways : List (Bor (List Way))) (row : List ℕ) (node : ℕ) (waiting : List (Reverse Offer)) → IsSettledAt ways row node
    → Starts ways row node waiting → Starts ways row (node + 1) waiting
Starts-keep ways row node waiting settled s = record {
  known = λ u h. elim (cases_eq u node) [
    | inl e ↦ inr (subst (λ (w : ℕ). IsSettledAt ways row w) (sym e) settled)
    | inr n ↦ s.known u (omega arith)
  ];
  offers = s.offers;
}
