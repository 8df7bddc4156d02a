-- How far a route is walked, and what is left of its length.
use Rattle.std.proofs.Common.{◌≡◌, ℕ, ◌<◌, ◌≤◌, ◌+◌, List, [], ◌∷◌, length, drop, inl, inr, refl, sym, ap, subst, ◌∙◌, sum_by, arith}
use Rattle.std.proofs.lemmas.List.{drop_all}
use Rattle.std.proofs.lemmas.List.Sums.{sum_by-cons}
use Rattle.loom_base.specs.declared.positions.SegmentNo.{SegmentNo}
use Rattle.loom_topology.specs.Topology.{TopologyView, price_at}
use Rattle.loom_types.specs.Routes.{IsChainOfRuns, RunLeads}

-- a run leads from a node to one node
same_end : (topology : TopologyView) (s v a b : ℕ) → RunLeads topology s v a → RunLeads topology s v b → a ≡ b
same_end topology s v a b (r, (o, inl (f, t))) (q, (p, inl (g, u))) = sym t ∙ u
same_end topology s v a b (r, (o, inl (f, t))) (q, (p, inr (g, u))) = sym t ∙ u ∙ sym f ∙ g
same_end topology s v a b (r, (o, inr (f, t))) (q, (p, inl (g, u))) = sym f ∙ g ∙ sym t ∙ u
same_end topology s v a b (r, (o, inr (f, t))) (q, (p, inr (g, u))) = sym f ∙ g

-- the chains from the start over the route are those from the node over the rest of it
pub record IsWalked (topology : TopologyView) (start total : ℕ) (route : List SegmentNo) (node left i : ℕ) : Type 0 where
  pub onward : (end : ℕ) → IsChainOfRuns topology start end route → IsChainOfRuns topology node end (drop i route)
  pub back : (end : ℕ) → IsChainOfRuns topology node end (drop i route) → IsChainOfRuns topology start end route
  pub sum : total + sum_by (λ s. price_at topology s.0) (drop i route) ≡ left + sum_by (λ s. price_at topology s.0) route

-- the prices of segments in sum
abbrev pub prices : TopologyView → List SegmentNo → ℕ
prices topology segments = sum_by (λ s. price_at topology s.0) segments

-- a chain leads from a node over a route to one node
pub chain_end_same : (topology : TopologyView) (v a b : ℕ) (route : List SegmentNo) → IsChainOfRuns topology v a route
    → IsChainOfRuns topology v b route → a ≡ b
chain_end_same topology v a b [] one other = sym one ∙ other
chain_end_same topology v a b (s ∷ route) (m, first, rest) (n, second, last) =
    chain_end_same topology n a b route
    (subst (λ (k : ℕ). IsChainOfRuns topology k a route) (same_end topology s.0 v m n first second) rest) last

module _ (topology : TopologyView) (start total : ℕ) (route : List SegmentNo) where
  pub walked_none : IsWalked topology start total route start total 0
  walked_none = record { onward = λ end chain. chain; back = λ end chain. chain; sum = refl }

  pub walked_all : (node left : ℕ) → IsWalked topology start total route node left (length route)
      → IsChainOfRuns topology start node route × (total ≡ left + prices topology route)
  walked_all node left walked =
      let all : length route ≤ length route = omega arith in
      let none : drop (length route) route ≡ [] = drop_all (length route) route all in
      let nothing : prices topology (drop (length route) route) ≡ 0 = ap (prices topology) none in
      let here : IsChainOfRuns topology node node [] = refl in (
        walked.back node (subst (IsChainOfRuns topology node node) (sym none) here),
        omega (arith, walked.sum, nothing),
      )

  module _ (node left i : ℕ) (x : SegmentNo) (walked : IsWalked topology start total route node left i)
      (next : drop i route ≡ x ∷ drop (i + 1) route) where
    pub walked_on : (after remaining price : ℕ) → RunLeads topology x.0 node after → price ≡ price_at topology x.0
        → left ≡ remaining + price → IsWalked topology start total route after remaining (i + 1)
    walked_on after remaining price leads is_price less =
        let first : prices topology (drop i route) ≡ prices topology (x ∷ drop (i + 1) route) = ap (prices topology) next in
        let parts : prices topology (x ∷ drop (i + 1) route) ≡ price_at topology x.0 + prices topology (drop (i + 1) route) =
        sum_by-cons (λ s. price_at topology s.0) x (drop (i + 1) route) in
        record {
          onward = λ end chain.
              let rest : IsChainOfRuns topology node end (x ∷ drop (i + 1) route) =
              subst (IsChainOfRuns topology node end) next (walked.onward end chain) in
              subst (λ (n : ℕ). IsChainOfRuns topology n end (drop (i + 1) route))
              (same_end topology x.0 node rest.0 after rest.1 leads) rest.2;
          back = λ end chain.
              let rest : IsChainOfRuns topology node end (x ∷ drop (i + 1) route) = (after, leads, chain) in
              walked.back end (subst (IsChainOfRuns topology node end) (sym next) rest);
          sum = omega (arith, walked.sum, first, parts, is_price, less);
        }

    pub walked_stuck : ((end : ℕ) → RunLeads topology x.0 node end → ⊥) → (end : ℕ) → IsChainOfRuns topology start end route → ⊥
    walked_stuck nowhere end chain =
        let rest : IsChainOfRuns topology node end (x ∷ drop (i + 1) route) =
        subst (IsChainOfRuns topology node end) next (walked.onward end chain) in
        nowhere rest.0 rest.1

    pub walked_past : (price : ℕ) → price ≡ price_at topology x.0 → left < price → total ≡ prices topology route → ⊥
    walked_past price is_price less whole =
        let first : prices topology (drop i route) ≡ prices topology (x ∷ drop (i + 1) route) = ap (prices topology) next in
        let parts : prices topology (x ∷ drop (i + 1) route) ≡ price_at topology x.0 + prices topology (drop (i + 1) route) =
        sum_by-cons (λ s. price_at topology s.0) x (drop (i + 1) route) in
        absurd (omega (arith, walked.sum, first, parts, is_price, less, whole))
