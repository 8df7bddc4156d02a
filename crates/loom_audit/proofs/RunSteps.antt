-- Runs that are open to a net, read off the project's topology.
use Rattle.std.proofs.Common.{◌≡◌, ℕ, true, false, cond, eqb, Option, Some, None, inl, inr, ◌⊎◌, sym, ap, ◌∙◌, IfSome, IfNone}
use Rattle.std.specs.Option.{option_map}
use Rattle.std.proofs.lemmas.Bool.{cases_eq, eq-eqb, ne_eqb}
use Rattle.loom_base.specs.declared.positions.NodeNo.{NodeNo}
use Rattle.loom_topology.specs.Topology.{TopologyView, segment_at, is_coupler, other_end_at}
use Rattle.loom_active.proofs.Openings.{DifferInOpen, coupler-same}
use Rattle.loom_types.specs.Routes.{RunLeads}

ends_at : (from to v u : ℕ) → cond (eqb from v) (Some to) (cond (eqb to v) (Some from) None) ≡ Some u → ((from ≡ v) × (to ≡ u)) ⊎ ((from ≡ u) × (to ≡ v))
ends_at from to v u e = elim (cases_eq from v) [
  | inl at_from ↦
      let found : Some to ≡ Some u =
      ap (λ b. cond b (Some to) (cond (eqb to v) (Some from) None)) (sym (eq-eqb from v at_from)) ∙ e in
      inl (at_from, (cc))
  | inr not_from ↦
      let next : cond (eqb to v) (Some from) None ≡ Some u =
      ap (λ b. cond b (Some to) (cond (eqb to v) (Some from) None)) (sym (ne_eqb from v not_from)) ∙ e in
      elim (cases_eq to v) [
        | inl at_to ↦
            let found : Some from ≡ Some u = ap (λ b. cond b (Some from) None) (sym (eq-eqb to v at_to)) ∙ next in
            inr ((cc), at_to)
        | inr not_to ↦
            let none : None ≡ Some u = ap (λ b. cond b (Some from) None) (sym (ne_eqb to v not_to)) ∙ next in
            absurd (cc)
      ]
]

no_end : (from to v : ℕ) → cond (eqb from v) (Some to) (cond (eqb to v) (Some from) None) ≡ None → (from ≡ v) ⊎ (to ≡ v) → ⊥
no_end from to v e at = elim (cases_eq from v) [
  | inl at_from ↦
      let found : Some to ≡ None =
      ap (λ b. cond b (Some to) (cond (eqb to v) (Some from) None)) (sym (eq-eqb from v at_from)) ∙ e in
      absurd (cc)
  | inr not_from ↦
      let next : cond (eqb to v) (Some from) None ≡ None =
      ap (λ b. cond b (Some to) (cond (eqb to v) (Some from) None)) (sym (ne_eqb from v not_from)) ∙ e in
      elim at [
        | inl at_from ↦ absurd (not_from at_from)
        | inr at_to ↦
            let found : Some from ≡ None = ap (λ b. cond b (Some from) None) (sym (eq-eqb to v at_to)) ∙ next in
            absurd (cc)
      ]
]

module _ (whole open_ : TopologyView) (differ : DifferInOpen whole open_) (s v : ℕ) where
  run_some : (segment_at open_ s).is_open ≡ true → is_coupler (segment_at whole s).kind ≡ false → (u : ℕ)
      → other_end_at whole s v ≡ Some u → RunLeads open_ s v u
  run_some is_open run u e = (
    sym (coupler-same whole open_ differ s) ∙ run,
    (
      is_open,
      elim (ends_at (segment_at whole s).from (segment_at whole s).to v u e) [
        | inl (from, to) ↦ inl (sym (differ.start s) ∙ from, sym (differ.finish s) ∙ to)
        | inr (from, to) ↦ inr (sym (differ.start s) ∙ from, sym (differ.finish s) ∙ to)
      ],
    ),
  )

  run_none : other_end_at whole s v ≡ None → (u : ℕ) → RunLeads open_ s v u → ⊥
  run_none e u (run, (is_open, inl (from, to))) =
      no_end (segment_at whole s).from (segment_at whole s).to v e (inl (differ.start s ∙ from))
  run_none e u (run, (is_open, inr (from, to))) =
      no_end (segment_at whole s).from (segment_at whole s).to v e (inr (differ.finish s ∙ to))

  pub run_leads : (found : Option NodeNo) → (segment_at open_ s).is_open ≡ true → is_coupler (segment_at whole s).kind ≡ false
      → option_map (λ end. end.0) found ≡ other_end_at whole s v → IfSome found (λ end. RunLeads open_ s v end.0)
  run_leads (Some end) is_open run e = run_some is_open run end.0 (sym e)
  run_leads None is_open run e = tt

  pub run_leads_nowhere : (found : Option NodeNo) → option_map (λ end. end.0) found ≡ other_end_at whole s v
      → IfNone found ((u : ℕ) → RunLeads open_ s v u → ⊥)
  run_leads_nowhere (Some end) e = tt
  run_leads_nowhere None e = run_none (sym e)

  pub coupler_leads_nowhere : is_coupler (segment_at whole s).kind ≡ true → (u : ℕ) → RunLeads open_ s v u → ⊥
  coupler_leads_nowhere coupler u leads =
      let e : true ≡ false = sym coupler ∙ coupler-same whole open_ differ s ∙ leads.0 in
      absurd (cc)
