-- The wires of a plan that passes: where they are live, of which sets they are, and where they end.
use Rattle.std.proofs.Common.{◌≡◌, ◌↔◌, ℕ, Bool, true, List, [], ◌∷◌, cond, get_or, refl, sym, ap, subst, ◌∙◌, arith, Contains, filter, inl, inr}
use Rattle.std.proofs.lemmas.Bool.{cases_eq, cases_order, cases_Bool, false_from_ne_true, false≢true}
use Rattle.std.proofs.lemmas.List.{get_or_default}
use Rattle.loom_base.proofs.Contained.{Contains-here, Contains-cons}
use Rattle.loom_project.specs.declared.draft.Draft.{Draft}
use Rattle.loom_types.specs.declared.plan.Plan.{Plan}
use Rattle.loom_types.specs.declared.plan.SetLine.{SetLine}
use Rattle.loom_types.specs.declared.wire.Wire.{Wire}
use Rattle.loom_active.specs.Clash.{HasNoClash}
use Rattle.loom_active.specs.LiveSets.{IsLiveUnder, IsSetBefore, PrintsLiveSets}
use Rattle.loom_active.specs.SetWires.{PicksWiresOf, SetFormsTree, EachSetFormsTree, LiveWiresAreOfLiveSets, PinsKeepToNets}
use Rattle.loom_audit.specs.Conditions.{IsWhereSetsAre}
use Rattle.loom_check.specs.Verdict.{PassesAll}
use Rattle.loom_check.proofs.AgreeingLines.{stands_at, each-member}
use Rattle.loom_check.proofs.LiveSetsPrinted.{prints_live_sets}
use Rattle.loom_check.proofs.OnceListed.{same-member}

-- two tests that agree at each member keep the same members
filter-alike : {X : Type 0} (p q : X → Bool) (xs : List X) → ((x : X) → Contains xs x → (p x ≡ true) ↔ (q x ≡ true))
    → filter p xs ≡ filter q xs
filter-alike p q [] same = refl
filter-alike {X} p q (x ∷ xs) same =
    let rest = filter-alike p q xs (λ y listed. same y (Contains-cons y x xs listed)) in
    let here = same x (Contains-here x xs) in
    elim (cases_Bool (q x)) [
      | inl holds ↦
          ap (λ (b : Bool). cond b (x ∷ filter p xs) (filter p xs)) (here.1 holds)
          ∙ ap (λ (l : List X). x ∷ l) rest
          ∙ sym (ap (λ (b : Bool). cond b (x ∷ filter q xs) (filter q xs)) holds)
      | inr lacks ↦
          ap (λ (b : Bool). cond b (x ∷ filter p xs) (filter p xs))
          (false_from_ne_true (p x) (λ passes. false≢true (sym lacks ∙ here.0 passes)))
          ∙ rest
          ∙ sym (ap (λ (b : Bool). cond b (x ∷ filter q xs) (filter q xs)) lacks)
    ]

-- two tests for a set's wires pick the same
pub picks-alike : (plan : Plan) (set : SetLine) (p q : Wire → Bool) → PicksWiresOf plan set p → PicksWiresOf plan set q
    → filter p plan.wires ≡ filter q plan.wires
picks-alike plan set p q one other =
    filter-alike p q plan.wires (λ w listed. (
      λ passes. (other w listed).1 ((one w listed).0 passes),
      λ passes. (one w listed).1 ((other w listed).0 passes),
    ))

module _ (draft : Draft) (plan : Plan) (passes : PassesAll draft plan) where
  pub prints : PrintsLiveSets draft plan
  prints = prints_live_sets draft plan passes.conditions.sets.sets

  pub no_clash : HasNoClash draft
  no_clash = passes.conditions.sets.takes.found.clear

  pub where_sets_are : (w : Wire) → Contains plan.wires w → IsWhereSetsAre draft plan w
  where_sets_are w (i, within, at) = passes.conditions.conditions i w within (stands_at plan.wires w i within at)

  pub live_of_live_sets : LiveWiresAreOfLiveSets draft plan
  live_of_live_sets choice valid w listed = (where_sets_are w listed).condition choice

  pub sets_form_trees : EachSetFormsTree draft plan
  sets_form_trees set printed = each-member (SetFormsTree draft plan) plan.sets passes.trees set printed

  pub pins_keep_to_nets : PinsKeepToNets plan
  pins_keep_to_nets w v (i, i_in, at_i) (j, j_in, at_j) meet coupler pin ends_w ends_v = elim (cases_eq w.net.0 v.net.0) [
    | inl same ↦ same
    | inr other ↦
        let get_i = stands_at plan.wires w i i_in at_i in
        let get_j = stands_at plan.wires v j j_in at_j in
        elim (cases_order i j) [
          | inl e ↦
              let same : w ≡ v = sym at_i ∙ (get_or_default plan.wires i w v i_in ∙ (ap (λ (k : ℕ). get_or plan.wires k v) e ∙ at_j)) in
              ap (λ (u : Wire). u.net.0) same
          | inr (inl less) ↦
              absurd (passes.pins.apart i j (record {
                rising = less;
                w = w;
                v = v;
                first = get_i;
                second = get_j;
                meet = record { different = other; together = meet; coupler = coupler; pin = pin; one = ends_w; other = ends_v };
              }))
          | inr (inr more) ↦
              let (choice, holds_w, holds_v) = meet in
              absurd (passes.pins.apart j i (record {
                rising = more;
                w = v;
                v = w;
                first = get_j;
                second = get_i;
                meet = record {
                  different = λ same. other (sym same);
                  together = (choice, holds_v, holds_w);
                  coupler = coupler;
                  pin = pin;
                  one = ends_v;
                  other = ends_w;
                };
              }))
        ]
  ]

  -- of two sets of one net that are live together none comes before the other
  pub not_together : (choice : ℕ → Bool) (a b : SetLine) → IsLiveUnder draft choice a.net.0 a.mask → IsLiveUnder draft choice b.net.0 b.mask
      → a.net.0 ≡ b.net.0 → IsSetBefore a b → ⊥
  not_together choice a b live_a live_b net before =
      let other_net : IsLiveUnder draft choice a.net.0 b.mask = subst (λ (n : ℕ). IsLiveUnder draft choice n b.mask) (sym net) live_b in
      let mask : a.mask ≡ b.mask = sym live_a.needs ∙ other_net.needs in
      elim before [ inl less ↦ omega (arith, less, net) | inr (e, less) ↦ omega (arith, less, mask) ]

  -- sets of one net that are live together are one
  pub one_live_set : (choice : ℕ → Bool) (a b : SetLine) → Contains plan.sets a → Contains plan.sets b
      → IsLiveUnder draft choice a.net.0 a.mask → IsLiveUnder draft choice b.net.0 b.mask → a.net.0 ≡ b.net.0 → a ≡ b
  one_live_set choice a b in_a in_b live_a live_b net =
      same-member IsSetBefore plan.sets prints.order a b in_a in_b (not_together choice a b live_a live_b net)
      (not_together choice b a live_b live_a (sym net))
