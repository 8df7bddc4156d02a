-- Ends in range and routed wires, told by tests.
use Rattle.std.proofs.Common.{◌≡◌, ℕ, ◌<◌, ◌≤◌, ◌+◌, Bool, true, false, eqb, ltb, leb, List, length, sym, subst, ◌∙◌, arith}
use Rattle.std.specs.Prelude.{IsTrue}
use Rattle.std.proofs.lemmas.Bool.{eq-eqb, eqb-true, ltb-true, lt-ltb, leb-true, le-leb}
use Rattle.loom_base.specs.declared.positions.CavityNo.{CavityNo}
use Rattle.loom_base.specs.declared.positions.NodeNo.{NodeNo}
use Rattle.loom_base.specs.declared.positions.SegmentNo.{SegmentNo}
use Rattle.loom_topology.specs.Topology.{TopologyView}
use Rattle.loom_types.specs.declared.wire.End.{End}
use Rattle.loom_types.specs.declared.wire.End.TheVariants.{Cavity, Splice}
use Rattle.loom_types.specs.declared.wire.Wire.{Wire}
use Rattle.loom_types.specs.Routes.{IsEndInRange, IsChainOfRuns, IsRouted, node_of_end}
use Rattle.loom_audit.proofs.Walks.{prices, chain_end_same}

-- a test tells whether an end is in range
abbrev pub Tells : TopologyView → Bool → End → Type 0
Tells topology test end = (IsTrue test → IsEndInRange topology end) × (IsEndInRange topology end → IsTrue test)

module _ (topology : TopologyView) (end : End) where
  pub cavity_told : (cavity : CavityNo) (count : ℕ) → end ≡ Cavity cavity → count ≡ length topology.cavities
      → Tells topology (ltb cavity.0 count) end
  cavity_told cavity count is same =
      let told : Tells topology (ltb cavity.0 count) (Cavity cavity) = (
        (λ h. subst (λ (k : ℕ). cavity.0 < k) same (ltb-true cavity.0 count h)),
        (λ r. lt-ltb cavity.0 count (subst (λ (k : ℕ). cavity.0 < k) (sym same) r)),
      ) in
      subst (λ (e : End). Tells topology (ltb cavity.0 count) e) (sym is) told

  pub splice_told : (node : NodeNo) (ordinal : ℕ) → end ≡ Splice node ordinal → node.0 < length topology.nodes
      → Tells topology (leb 1 ordinal) end
  splice_told node ordinal is within =
      let told : Tells topology (leb 1 ordinal) (Splice node ordinal) = (
        (λ h. (within, leb-true 1 ordinal h)),
        (λ r. le-leb 1 ordinal r.1),
      ) in
      subst (λ (e : End). Tells topology (leb 1 ordinal) e) (sym is) told

  pub splice_past_told : (node : NodeNo) (ordinal count : ℕ) → end ≡ Splice node ordinal → count ≡ length topology.nodes → count ≤ node.0
      → Tells topology (ltb node.0 count) end
  splice_past_told node ordinal count is same past =
      let told : Tells topology (ltb node.0 count) (Splice node ordinal) = (
        (λ h. absurd (omega (arith, ltb-true node.0 count h, past))),
        (λ r. absurd (omega (arith, r.0, same, past))),
      ) in
      subst (λ (e : End). Tells topology (ltb node.0 count) e) (sym is) told

-- a test tells whether a wire is routed
abbrev pub TellsRouted : TopologyView → Bool → Wire → Type 0
TellsRouted topology test w = (IsTrue test → IsRouted topology w) × (IsRouted topology w → IsTrue test)

module _ (topology : TopologyView) (w : Wire) (start end : ℕ) (route : List SegmentNo) (from : IsEndInRange topology w.from) (to : IsEndInRange topology w.to)
    (starts : start ≡ node_of_end topology w.from) (ends : end ≡ node_of_end topology w.to) (over : route ≡ w.route) where
  -- a routed wire's chain, from the start
  its_chain : IsRouted topology w → IsChainOfRuns topology start end route
  its_chain is =
      subst (λ (r : List SegmentNo). IsChainOfRuns topology start end r) (sym over)
      (subst (λ (n : ℕ). IsChainOfRuns topology n end w.route) (sym starts)
      (subst (λ (n : ℕ). IsChainOfRuns topology (node_of_end topology w.from) n w.route) (sym ends) is.chain))

  its_length : IsRouted topology w → w.length ≡ prices topology route
  its_length is = subst (λ (r : List SegmentNo). w.length ≡ prices topology r) (sym over) is.length

  module _ (node left : ℕ) (chain : IsChainOfRuns topology start node route) (sum : w.length ≡ left + prices topology route) where
    pub routed_told : node ≡ end → TellsRouted topology (eqb left 0) w
    routed_told same = (
      (λ h.
          let none : left ≡ 0 = eqb-true left 0 h in
          let whole : w.length ≡ prices topology route = omega (arith, sum, none) in
          record {
            from = from;
            to = to;
            chain =
                subst (λ (r : List SegmentNo). IsChainOfRuns topology (node_of_end topology w.from) (node_of_end topology w.to) r) over
                (subst (λ (n : ℕ). IsChainOfRuns topology n (node_of_end topology w.to) route) starts
                (subst (λ (n : ℕ). IsChainOfRuns topology start n route) (same ∙ ends) chain));
            length = subst (λ (r : List SegmentNo). w.length ≡ prices topology r) over whole;
          }),
      (λ is. eq-eqb left 0 (omega (arith, sum, its_length is))),
    )

    pub unrouted_told : (test : Bool) → test ≡ false → test ≡ eqb node end → TellsRouted topology test w
    unrouted_told test off tests = (
      (λ h.
          let e : true ≡ false = sym h ∙ off in
          absurd (cc)),
      (λ is. tests ∙ eq-eqb node end (chain_end_same topology start node end route chain (its_chain is))),
    )

  pub stuck_told : ((end : ℕ) → IsChainOfRuns topology start end route → w.length ≡ prices topology route → ⊥) → TellsRouted topology false w
  stuck_told never = (
    (λ h.
        let e : false ≡ true = h in
        absurd (cc)),
    (λ is. absurd (never end (its_chain is) (its_length is))),
  )
