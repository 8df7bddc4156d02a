-- Where a net's step may go.
use Rattle.std.proofs.Common.{◌≡◌, ◌≢◌, ℕ, ◌≤◌, ◌==◌, Option, Some, None, false, length, IsTrue, inl, inr, sym, ◌∙◌, arith}
use Rattle.std.specs.Option.{option_map, IfSome, IfNone}
use Rattle.std.proofs.lemmas.Bool.{cases_eq, eq-eqb, ne_eqb, cond-true, cond-false, true≢false}
use Rattle.std.proofs.lemmas.Option.{same_Some, none-some}
use Rattle.loom_base.specs.declared.positions.NodeNo.{NodeNo}
use Rattle.loom_topology.specs.Topology.{TopologyView, segment_at, other_end_at}
use Rattle.loom_topology.specs.WiringTree.{other_end}
use Rattle.loom_project.specs.declared.draft.Draft.{Draft}
use Rattle.loom_project.specs.Project.{topology_of, net_topology}
use Rattle.loom_project.proofs.PartsLemmas.{count_net_segments}
use Rattle.loom_active.proofs.OpenTrees.{open-within}
use Rattle.loom_audit.specs.LayoutTests.{IsPassable}
use Rattle.loom_audit.proofs.NetTopologies.{other_end-same}

module _ (topology : TopologyView) (s v : ℕ) where
  first-end : (segment_at topology s).from ≡ v → other_end_at topology s v ≡ Some (segment_at topology s).to
  first-end e = cond-true ((segment_at topology s).from == v) _ _ (eq-eqb (segment_at topology s).from v e)

  second-end : (segment_at topology s).from ≢ v → (segment_at topology s).to ≡ v → other_end_at topology s v ≡ Some (segment_at topology s).from
  second-end apart e =
      cond-false ((segment_at topology s).from == v) _ _ (ne_eqb (segment_at topology s).from v apart)
      ∙ cond-true ((segment_at topology s).to == v) _ _ (eq-eqb (segment_at topology s).to v e)

  no-end : (segment_at topology s).from ≢ v → (segment_at topology s).to ≢ v → other_end_at topology s v ≡ None
  no-end apart other =
      cond-false ((segment_at topology s).from == v) _ _ (ne_eqb (segment_at topology s).from v apart)
      ∙ cond-false ((segment_at topology s).to == v) _ _ (ne_eqb (segment_at topology s).to v other)

  to-first : (segment_at topology s).from ≡ v → other_end (segment_at topology s) v ≡ (segment_at topology s).to
  to-first e = cond-true ((segment_at topology s).from == v) _ _ (eq-eqb (segment_at topology s).from v e)

  to-second : (segment_at topology s).from ≢ v → other_end (segment_at topology s) v ≡ (segment_at topology s).from
  to-second apart = cond-false ((segment_at topology s).from == v) _ _ (ne_eqb (segment_at topology s).from v apart)

-- where a step that finds this other end may go
pub record IsLed (topology : TopologyView) (start s : ℕ) (r : Option NodeNo) : Type 0 where
  pub passable : IfSome r (λ _. IsPassable topology start s)
  pub to : IfSome r (λ to. to.0 ≡ other_end (segment_at topology s) start)
  pub not : IfNone r (IsPassable topology start s → ⊥)

led_on : (topology : TopologyView) (start s : ℕ) (r : Option NodeNo) → IsTrue (segment_at topology s).is_open
    → option_map (λ (end : NodeNo). end.0) r ≡ other_end_at topology s start → IsLed topology start s r
led_on topology start s None is_open e = record {
  passable = tt;
  to = tt;
  not = λ p. elim (cases_eq (segment_at topology s).from start) [
    | inl same ↦ none-some (segment_at topology s).to (e ∙ first-end topology s start same)
    | inr apart ↦ elim p.1 [
      | inl same ↦ apart same
      | inr same ↦ none-some (segment_at topology s).from (e ∙ second-end topology s start apart same)
    ]
  ];
}
led_on topology start s (Some u) is_open e = elim (cases_eq (segment_at topology s).from start) [
  | inl same ↦ record {
    passable = (is_open, inl same);
    to = same_Some u.0 (segment_at topology s).to (e ∙ first-end topology s start same) ∙ sym (to-first topology s start same);
    not = tt;
  }
  | inr apart ↦ elim (cases_eq (segment_at topology s).to start) [
    | inl same ↦ record {
      passable = (is_open, inr same);
      to = same_Some u.0 (segment_at topology s).from (e ∙ second-end topology s start apart same) ∙ sym (to-second topology s start apart);
      not = tt;
    }
    | inr other ↦ absurd (none-some u.0 (sym (e ∙ no-end topology s start apart other)))
  ]
]

module _ (draft : Draft) (net start s : ℕ) where
  pub led : (r : Option NodeNo) → IsTrue (segment_at (net_topology draft net) s).is_open
      → option_map (λ (end : NodeNo). end.0) r ≡ other_end_at (topology_of draft) s start → IsLed (net_topology draft net) start s r
  led r is_open e = led_on (net_topology draft net) start s r is_open (e ∙ other_end-same draft net s start)

  pub past_segments : length draft.segments ≤ s → IsPassable (net_topology draft net) start s → ⊥
  past_segments past p = omega (arith, past, open-within (net_topology draft net) s p.0, count_net_segments draft net)

  pub shut : (segment_at (net_topology draft net) s).is_open ≡ false → IsPassable (net_topology draft net) start s → ⊥
  shut closed p = true≢false (sym p.0 ∙ closed)
