-- A table of the sets that wires meet, wire by wire.
use Rattle.std.proofs.Common.{◌≡◌, ℕ, ◌+◌, inl, inr, true, false, cond, List, Option, Some, None, get_or, refl, sym, ap, subst, ◌∙◌, arith, eqb, slice_get}
use Rattle.std.specs.HashMap.{get}
use Rattle.std.specs.Option.{is_some}
use Rattle.std.proofs.lemmas.Bool.{cases_Bool, cases_eq, cond-true, cond-false, and_parts, and_from, eqb-true, eq-eqb, false≢true}
use Rattle.std.proofs.lemmas.Option.{same_Some, get_or_from_slice_get}
use Rattle.loom_types.specs.declared.plan.Plan.{Plan}
use Rattle.loom_types.specs.declared.wire.Wire.{Wire}
use Rattle.loom_active.specs.SetWires.{RowsMeet}
use Rattle.loom_audit.specs.Grouping.{is_same_pair}
use Rattle.loom_check.specs.MetSets.{AreMet, MetTable, KnowsMetBefore}
use Rattle.loom_check.specs.MetParts.{KnowsOnlyMet}

-- wires of one net and one row meet the same sets
met-alike : (plan : Plan) (w v : Wire) (positions : List ℕ) → w.net.0 ≡ v.net.0 → w.row ≡ v.row → AreMet plan w positions → AreMet plan v positions
met-alike plan w v positions net row are = record {
  rising = are.rising;
  within = are.within;
  each = λ at set e. (
    λ listed.
        let its = (are.each at set e).0 listed in
        (sym net ∙ its.0, subst (λ (r : ℕ). RowsMeet plan r set.row) row its.1),
    λ its. (are.each at set e).1 (net ∙ its.0, subst (λ (r : ℕ). RowsMeet plan r set.row) (sym row) its.1),
  );
}

some-value : {X : Type 0} (o : Option X) → is_some o ≡ true → (x : X) × (o ≡ Some x)
some-value None holds = absurd (false≢true holds)
some-value (Some x) holds = (x, refl)

abbrev key_of : Wire → ℕ × ℕ
key_of w = (w.net.0, w.row)

module _ (plan : Plan) (k : ℕ) (w : Wire) (is : w ≡ get_or plan.wires k w) where
  one-wire : (v : Wire) → slice_get plan.wires k ≡ Some v → w ≡ v
  one-wire v at = is ∙ get_or_from_slice_get plan.wires k v w at

  -- the table has the wire's sets already
  pub known-more : (table : MetTable) → is_some (get is_same_pair table (key_of w)) ≡ true → KnowsOnlyMet plan table → KnowsMetBefore plan table k
      → KnowsMetBefore plan table (k + 1)
  known-more table there only known i v lt at = elim (cases_eq i k) [
    | inl e ↦
        let same : w ≡ v = one-wire v (subst (λ (n : ℕ). slice_get plan.wires n ≡ Some v) e at) in
        let (positions, found) = some-value (get is_same_pair table (key_of w)) there in
        let found_v : get is_same_pair table (key_of v) ≡ Some positions = subst (λ (u : Wire). get is_same_pair table (key_of u) ≡ Some positions) same found in
        record { positions = positions; found = found_v; met = only v positions found_v }
    | inr ne ↦ known i v (omega (arith, lt, ne)) at
  ]

  -- the wire's sets are put into the table
  module _ (positions : List ℕ) (old new : MetTable) (met : AreMet plan w positions)
      (put : (key : ℕ × ℕ) → get is_same_pair new key ≡ cond (is_same_pair (key_of w) key) (Some positions) (get is_same_pair old key)) where
    alike : (v : Wire) → is_same_pair (key_of w) (key_of v) ≡ true → AreMet plan v positions
    alike v same =
        let parts = and_parts (eqb w.net.0 v.net.0) (eqb w.row v.row) same in
        met-alike plan w v positions (eqb-true w.net.0 v.net.0 parts.0) (eqb-true w.row v.row parts.1) met

    here : (v : Wire) → is_same_pair (key_of w) (key_of v) ≡ true → get is_same_pair new (key_of v) ≡ Some positions
    here v same = put (key_of v) ∙ cond-true (is_same_pair (key_of w) (key_of v)) (Some positions) (get is_same_pair old (key_of v)) same

    kept : (v : Wire) → is_same_pair (key_of w) (key_of v) ≡ false → get is_same_pair new (key_of v) ≡ get is_same_pair old (key_of v)
    kept v other = put (key_of v) ∙ cond-false (is_same_pair (key_of w) (key_of v)) (Some positions) (get is_same_pair old (key_of v)) other

    pub put-only : KnowsOnlyMet plan old → KnowsOnlyMet plan new
    put-only only v found e = elim (cases_Bool (is_same_pair (key_of w) (key_of v))) [
      | inl same ↦ subst (AreMet plan v) (same_Some positions found (sym (here v same) ∙ e)) (alike v same)
      | inr other ↦ only v found (sym (kept v other) ∙ e)
    ]

    pub put-more : KnowsMetBefore plan old k → KnowsMetBefore plan new (k + 1)
    put-more known i v lt at = elim (cases_Bool (is_same_pair (key_of w) (key_of v))) [
      | inl same ↦ record { positions = positions; found = here v same; met = alike v same }
      | inr other ↦ elim (cases_eq i k) [
        | inl e ↦
            let own : w ≡ v = one-wire v (subst (λ (n : ℕ). slice_get plan.wires n ≡ Some v) e at) in
            let same : is_same_pair (key_of w) (key_of v) ≡ true =
            and_from (eqb w.net.0 v.net.0) (eqb w.row v.row) (eq-eqb w.net.0 v.net.0 (ap (λ (u : Wire). u.net.0) own)) (eq-eqb w.row v.row (ap (λ (u : Wire). u.row) own)) in
            absurd (false≢true (sym other ∙ same))
        | inr ne ↦
            let before = known i v (omega (arith, lt, ne)) at in
            record { positions = before.positions; found = kept v other ∙ before.found; met = before.met }
      ]
    ]
