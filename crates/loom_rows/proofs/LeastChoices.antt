-- The least choice for two conditions, from the least choices for their parts at an option.
use Rattle.std.proofs.Common.{◌≡◌, ◌≢◌, ℕ, ◌+◌, ◌<◌, ◌⊎◌, inl, inr, Bool, true, false, cond, ◌&&◌, List, length, refl, sym, ap, subst, ◌∙◌, arith, IsTrue, slice_set, get_or, ◌==◌, if◌then◌else◌}
use Rattle.std.specs.HashSet.{HashSet, contains, Updates}
use Rattle.std.proofs.lemmas.List.{get_or-set_same, get_or-set_other}
use Rattle.std.proofs.lemmas.Bool.{cases_Bool, cases_eq, cases_lt, cases_order, eq-eqb, ne_eqb, and_parts, and_from, true≢false}
use Rattle.loom_formula.specs.Choice.{choice_at, IsBefore}
use Rattle.loom_rows.specs.declared.cond.Cond.{Cond, Never, Always, Row'}
use Rattle.loom_rows.specs.declared.op.Op.TheVariants.{And}
use Rattle.loom_rows.specs.Condition.{Meaning, value, number_of, rising, first_option, both}
use Rattle.loom_rows.specs.Table.{Table, Has}
use Rattle.loom_rows.specs.Leftovers.{set_before}
use Rattle.loom_rows.specs.Outcome.{pair_eq, ArePartsOf}
use Rattle.loom_rows.specs.Meet.{IsNever, IsPossible, Meet}
use Rattle.loom_rows.specs.Search.{IsClear, IsFoundFrom, IsFailed, AreFailed}
use Rattle.loom_rows.proofs.Conditions.{AgreeFrom, set_before-in, set_before-past, value-from, same_value, number-end}
use Rattle.loom_rows.proofs.Joins.{first_of, rising-same, pair_eq-true}

both_true : (x y : Bool) → (x && y) ≡ true → x ≡ true
both_true true y e = refl
both_true false y e = e

-- a condition that needs no further option holds at the clear choice, which no choice is before
pub found-clear : (f : Meaning) (first : ℕ) (c : ℕ → Bool) → IsClear c → f c ≡ true → IsFoundFrom f first c
found-clear f first c clear holds = record {
  least = record { holds = holds; least = λ other h before. true≢false (sym before.higher ∙ clear before.option) };
  clear = λ option lt. clear option;
}

module _ (f low high : Meaning) (at : ℕ) (split : (c : ℕ → Bool) → f c ≡ cond (c at) (high c) (low c)) where
  at_low : (c : ℕ → Bool) → c at ≡ false → f c ≡ low c
  at_low c e = split c ∙ ap (λ b. cond b (high c) (low c)) e

  at_high : (c : ℕ → Bool) → c at ≡ true → f c ≡ high c
  at_high c e = split c ∙ ap (λ b. cond b (high c) (low c)) e

  -- the least choice for the low part is the least
  pub found-low : (first : ℕ) (c : ℕ → Bool) → at < first → IsFoundFrom low first c → IsFoundFrom f at c
  found-low first c lt found = record {
    least = record {
      holds = at_low c (found.clear at lt) ∙ found.least.holds;
      least = λ other h before.
          elim (cases_lt before.option first) [
            | inl below ↦ true≢false (sym before.higher ∙ found.clear before.option below)
            | inr past ↦
                let e = before.same at (omega arith) ∙ found.clear at lt in
                found.least.least other (sym (at_low other e) ∙ h) before
          ];
    };
    clear = λ option below. found.clear option (omega arith);
  }

  -- where the low part never holds, it is that for the high part with the option set
  pub found-high : (first : ℕ) (c d : ℕ → Bool) → at < first → IsNever low → ((p q : ℕ → Bool) → AgreeFrom (at + 1) p q → high p ≡ high q)
      → d at ≡ true → ((option : ℕ) → option ≢ at → d option ≡ c option) → IsFoundFrom high first c → IsFoundFrom f at d
  found-high first c d lt never from set rest found = record {
    least = record {
      holds = at_high d set ∙ from d c (λ option le. rest option (λ e. absurd (omega arith))) ∙ found.least.holds;
      least = λ other h before. by other h before (cases_Bool (other at)) (cases_order before.option at);
    };
    clear = λ option below. rest option (λ e. absurd (omega arith)) ∙ found.clear option (omega arith);
  }
    where
      -- the other choice, with the option and all before it not set, is earlier
      earlier : (other : ℕ → Bool) (before : IsBefore other d) → at < before.option → IsBefore (set_before (at + 1) (λ _. false) other) c
      earlier other before over = record {
        option = before.option;
        same = λ k below.
            elim (cases_lt k (at + 1)) [
              | inl in_k ↦ set_before-in (at + 1) (λ _. false) other k in_k ∙ sym (found.clear k (omega arith))
              | inr past ↦ set_before-past (at + 1) (λ _. false) other k past ∙ before.same k below ∙ rest k (λ e. absurd (omega arith))
            ];
        lower = set_before-past (at + 1) (λ _. false) other before.option (omega arith) ∙ before.lower;
        higher = sym (rest before.option (λ e. absurd (omega arith))) ∙ before.higher;
      }

      by : (other : ℕ → Bool) → IsTrue (f other) → (before : IsBefore other d) → (other at ≡ true) ⊎ (other at ≡ false) → (before.option ≡ at) ⊎ ((before.option < at) ⊎ (at < before.option)) → ⊥
      by other h before (inr off) order = true≢false (sym h ∙ at_low other off ∙ never other)
      by other h before (inl on) (inl e) = true≢false (sym on ∙ ap other (sym e) ∙ before.lower)
      by other h before (inl on) (inr (inl below)) = true≢false (sym before.higher ∙ rest before.option (λ e. absurd (omega arith)) ∙ found.clear before.option (omega arith))
      by other h before (inl on) (inr (inr over)) =
          found.least.least (set_before (at + 1) (λ _. false) other)
          (from (set_before (at + 1) (λ _. false) other) other (λ option le. set_before-past (at + 1) (λ _. false) other option le) ∙ sym (at_high other on) ∙ h)
          (earlier other before over)

  pub never-both : IsNever low → IsNever high → IsNever f
  never-both l h c = elim (cases_Bool (c at)) [ inl e ↦ at_high c e ∙ h c | inr e ↦ at_low c e ∙ l c ]

-- ---- over a table

module _ (t : Table) (a b : Cond) (has_a : Has t a) (has_b : Has t b) where
  pub never-end : (number_of a ≡ 0) ⊎ (number_of b ≡ 0) → IsNever (both (value a) (value b))
  never-end (inl e) c = ap (λ x. value x c && value b c) (sym (number-end t.options t.rows Never a tt has_a (omega arith) (sym e)))
  never-end (inr e) c = ap (λ x. value a c && value x c) (sym (number-end t.options t.rows Never b tt has_b (omega arith) (sym e))) ∙ off (value a c)
    where
      off : (x : Bool) → (x && false) ≡ false
      off true = refl
      off false = refl

  pub never-failed : (key : ℕ × ℕ) → key ≡ rising (number_of a) (number_of b) → IsFailed t key → IsNever (both (value a) (value b))
  never-failed key e n c =
      elim (rising-same (number_of n.a) (number_of n.b) (number_of a) (number_of b) (n.numbered ∙ e)) [
        | inl w ↦
            let v = same_value t.options t.rows n.a a n.has_a has_a w.0 in
            let u = same_value t.options t.rows n.b b n.has_b has_b w.1 in
            (λ i. sym v i c && sym u i c) ∙ n.never c
        | inr w ↦
            let v = same_value t.options t.rows n.a b n.has_a has_b w.0 in
            let u = same_value t.options t.rows n.b a n.has_b has_a w.1 in
            and_comm (value a c) (value b c) ∙ (λ i. sym v i c && sym u i c) ∙ n.never c
      ]
    where
      and_comm : (x y : Bool) → (x && y) ≡ (y && x)
      and_comm true true = refl
      and_comm true false = refl
      and_comm false true = refl
      and_comm false false = refl

  module _ (at : ℕ) (a_low b_low a_high b_high : Cond) (parts : ArePartsOf And t a b at a_low b_low a_high b_high) where
    pub meets-low : (c : ℕ → Bool) → IsFoundFrom (both (value a_low) (value b_low)) (first_of t.options a_low b_low) c → IsFoundFrom (both (value a) (value b)) (first_of t.options a b) c
    meets-low c found =
        subst (λ (n : ℕ). IsFoundFrom (both (value a) (value b)) n c) parts.first
        (found-low (both (value a) (value b)) (both (value a_low) (value b_low)) (both (value a_high) (value b_high)) at parts.split (first_of t.options a_low b_low) c parts.low_rises found)

    high-from : (p q : ℕ → Bool) → AgreeFrom (at + 1) p q → both (value a_high) (value b_high) p ≡ both (value a_high) (value b_high) q
    high-from p q agree =
        let l = value-from t.options t.rows a_high parts.has_a_high (at + 1) (omega (arith, parts.high_rises)) p q agree in
        let r = value-from t.options t.rows b_high parts.has_b_high (at + 1) (omega (arith, parts.high_rises)) p q agree in
        λ i. l i && r i

    pub meets-high : (v w : List Bool) → IsNever (both (value a_low) (value b_low)) → length v ≡ t.options → w ≡ slice_set v at true
        → IsFoundFrom (both (value a_high) (value b_high)) (first_of t.options a_high b_high) (choice_at v) → IsFoundFrom (both (value a) (value b)) (first_of t.options a b) (choice_at w)
    meets-high v w never long set found =
        subst (λ (n : ℕ). IsFoundFrom (both (value a) (value b)) n (choice_at w)) parts.first
        (found-high (both (value a) (value b)) (both (value a_low) (value b_low)) (both (value a_high) (value b_high)) at parts.split (first_of t.options a_high b_high) (choice_at v) (choice_at w)
        parts.high_rises never high-from
        (ap (λ l. get_or l at false) set ∙ get_or-set_same v at true false (omega (arith, parts.in_range)))
        (λ option ne. ap (λ l. get_or l option false) set ∙ get_or-set_other v at option true false ne)
        found)

    pub meets-never : IsNever (both (value a_low) (value b_low)) → IsNever (both (value a_high) (value b_high)) → IsNever (both (value a) (value b))
    meets-never = never-both (both (value a) (value b)) (both (value a_low) (value b_low)) (both (value a_high) (value b_high)) at parts.split

-- a further pair that failed
pub failed-insert : {S : Type 0} (t : Table) (m n : HashSet (ℕ × ℕ) S) (key : ℕ × ℕ) → AreFailed t m → Updates pair_eq m n key true → IsFailed t key → AreFailed t n
failed-insert t m n key failed updates here q at =
    elim (cases_Bool (pair_eq key q)) [
      | inl e ↦ subst (IsFailed t) (pair_eq-true key q e) here
      | inr e ↦ failed q (sym (ap (λ b. cond b true (contains pair_eq m q)) e) ∙ sym (updates.0 q) ∙ at)
    ]

-- ---- without a choice

module _ (t : Table) (a b : Cond) (has_a : Has t a) (has_b : Has t b) (at : ℕ) (a_low b_low a_high b_high : Cond) (parts : ArePartsOf And t a b at a_low b_low a_high b_high) where
  both_hold : (f g : Meaning) (c : ℕ → Bool) → both f g c ≡ true → Meet f g
  both_hold f g c e = let p = and_parts (f c) (g c) e in (c, p.0, p.1)

  -- a condition that depends on later options alone holds with this one set as well
  set_at : (x : Cond) → Has t x → at < first_option t.options x → (c : ℕ → Bool) (b : Bool) → value x (λ k. if k == at then b else c k) ≡ value x c
  set_at x has rises c b =
      value-from t.options t.rows x has (at + 1) (omega arith) (λ k. if k == at then b else c k) c
      (λ k le. ap (λ e. if e then b else c k) (ne_eqb k at (λ e. absurd (omega arith))))

  -- where the parts meet, the conditions meet
  pub meet-low : Meet (value a_low) (value b_low) → Meet (value a) (value b)
  meet-low (c, f, g) =
      let d = λ (k : ℕ). if k == at then false else c k in
      let here : d at ≡ false = ap (λ (e : Bool). if e then false else c at) (eq-eqb at at refl) in
      both_hold (value a) (value b) d
      (parts.split d ∙ ap (λ e. cond e (both (value a_high) (value b_high) d) (both (value a_low) (value b_low) d)) here
      ∙ (λ i. set_at a_low parts.has_a_low (omega (arith, parts.low_rises)) c false i && set_at b_low parts.has_b_low (omega (arith, parts.low_rises)) c false i)
      ∙ and_from (value a_low c) (value b_low c) f g)

  pub meet-high : Meet (value a_high) (value b_high) → Meet (value a) (value b)
  meet-high (c, f, g) =
      let d = λ (k : ℕ). if k == at then true else c k in
      let here : d at ≡ true = ap (λ (e : Bool). if e then true else c at) (eq-eqb at at refl) in
      both_hold (value a) (value b) d
      (parts.split d ∙ ap (λ e. cond e (both (value a_high) (value b_high) d) (both (value a_low) (value b_low) d)) here
      ∙ (λ i. set_at a_high parts.has_a_high (omega (arith, parts.high_rises)) c true i && set_at b_high parts.has_b_high (omega (arith, parts.high_rises)) c true i)
      ∙ and_from (value a_high c) (value b_high c) f g)

-- a condition of a table that isn't number 0 holds under some choice
pub holds_somewhere : (t : Table) (x : Cond) → Has t x → number_of x ≢ 0 → IsPossible (value x)
holds_somewhere t Never has other = absurd (other refl)
holds_somewhere t Always has other = (λ _. false, refl)
holds_somewhere t (Row' p n option low high) (row, has_low, has_high) other =
    elim (cases_eq (number_of high) 0) [
      | inr some_high ↦
          let (c, holds) = holds_somewhere t high has_high some_high in
          let d = set_before (option.0 + 1) (λ _. true) c in (
            d,
            ap (λ b. if b then value high d else value low d) (set_before-in (option.0 + 1) (λ _. true) c option.0 (omega arith))
                ∙ value-from t.options t.rows high has_high (option.0 + 1) (omega (arith, row.high_rises)) d c (λ k le. set_before-past (option.0 + 1) (λ _. true) c k le)
                ∙ holds,
          )
      | inl none_high ↦
          let (c, holds) = holds_somewhere t low has_low (λ none_low. row.apart (none_low ∙ sym none_high)) in
          let d = set_before (option.0 + 1) (λ _. false) c in (
            d,
            ap (λ b. if b then value high d else value low d) (set_before-in (option.0 + 1) (λ _. false) c option.0 (omega arith))
                ∙ value-from t.options t.rows low has_low (option.0 + 1) (omega (arith, row.low_rises)) d c (λ k le. set_before-past (option.0 + 1) (λ _. false) c k le)
                ∙ holds,
          )
    ]

-- number 0 is never
pub number-never : (t : Table) (x : Cond) → Has t x → number_of x ≡ 0 → IsNever (value x)
number-never t x has e c = ap (λ y. value y c) (sym (number-end t.options t.rows Never x tt has (omega arith) (sym e)))

-- nothing is known of pairs that don't stand in an empty set
pub failed-none : {S : Type 0} (t : Table) (m : HashSet (ℕ × ℕ) S) → ((key : ℕ × ℕ) → contains pair_eq m key ≡ false) → AreFailed t m
failed-none t m none key at = absurd (true≢false (sym at ∙ none key))

-- conditions that always hold meet
pub meet-always : (t : Table) (a b : Cond) → Has t a → Has t b → number_of a ≡ 1 → number_of b ≡ 1 → Meet (value a) (value b)
meet-always t a b has_a has_b e f = (
  λ _. false,
  ap (λ y. value y (λ _. false)) (sym (number-end t.options t.rows Always a tt has_a (omega arith) (sym e))),
  ap (λ y. value y (λ _. false)) (sym (number-end t.options t.rows Always b tt has_b (omega arith) (sym f))),
)
