-- Two conditions joined part by part.
use Rattle.std.proofs.Common.{◌≡◌, ℕ, ◌-◌, ◌<◌, ◌≤◌, ◌⊎◌, inl, inr, Bool, true, false, cond, eqb, Some, refl, sym, ap, subst, ◌∙◌, arith, min, max, Result, Ok, Err}
use Rattle.std.proofs.lemmas.Bool.{eqb-true, and_parts, cases_Bool, cases_eq}
use Rattle.std.proofs.lemmas.Option.{same_Some}
use Rattle.std.specs.HashMap.{HashMap, get, Updates}
use Rattle.loom_rows.specs.declared.cond.Cond.{Cond}
use Rattle.loom_rows.specs.declared.op.Op.{Op}
use Rattle.loom_rows.specs.declared.op.Op.TheVariants.{And, Or, Differ}
use Rattle.loom_rows.specs.declared.stop.RowsStop.{RowsStop}
use Rattle.loom_rows.specs.Condition.{Meaning, value, number_of, rising, first_option, low_at, high_at}
use Rattle.loom_rows.specs.Table.{Table, Has}
use Rattle.loom_rows.specs.Leftovers.{IsLeftover, Gains}
use Rattle.loom_rows.specs.Outcome.{joins, joined, branch, IsAnswer, Outcome, IsNoted, IsMemo, ArePartsOf, pair_eq}
use Rattle.loom_rows.proofs.Conditions.{same, first_option-lt, low_at-stands, high_at-stands, low_at-rises, high_at-rises, same_value, same_first_option}
use Rattle.loom_rows.proofs.Outcomes.{leftover-low, leftover-high, joined-split, gains-weaken, gains-trans, keeps, answer-keeps, leftover-trans, outcome-stop, outcome-after}

abbrev pub first_of : ℕ → Cond → Cond → ℕ
first_of options a b = min (first_option options a) (first_option options b)

-- the parts at the first option
pub parts-at : (op : Op) (t : Table) (a b : Cond) → Has t a → Has t b → (2 ≤ number_of a) ⊎ (2 ≤ number_of b) → (at : ℕ) → at ≡ first_of t.options a b
    → ArePartsOf op t a b at (low_at at a) (low_at at b) (high_at at a) (high_at at b)
parts-at op t a b has_a has_b row at at_is =
    let lt : at < t.options = elim row [ inl r ↦ omega (arith, first_option-lt t.options t.rows a has_a r) | inr r ↦ omega (arith, first_option-lt t.options t.rows b has_b r) ] in
    record {
      first = at_is;
      in_range = lt;
      has_a_low = low_at-stands t.options t.rows at a has_a;
      has_b_low = low_at-stands t.options t.rows at b has_b;
      has_a_high = high_at-stands t.options t.rows at a has_a;
      has_b_high = high_at-stands t.options t.rows at b has_b;
      low_rises = omega (arith, low_at-rises t.options t.rows at a has_a (omega arith) lt, low_at-rises t.options t.rows at b has_b (omega arith) lt);
      high_rises = omega (arith, high_at-rises t.options t.rows at a has_a (omega arith) lt, high_at-rises t.options t.rows at b has_b (omega arith) lt);
      left_low = leftover-low op t a b has_a has_b at (omega arith) (omega arith) lt;
      left_high = leftover-high op t a b has_a has_b at (omega arith) (omega arith) lt;
      split = joined-split op at a b;
    }

-- the same, for parts that equal these
pub parts-of : (op : Op) (t : Table) (a b : Cond) → Has t a → Has t b → (2 ≤ number_of a) ⊎ (2 ≤ number_of b) → (at : ℕ) → at ≡ first_of t.options a b
    → (a_low b_low a_high b_high : Cond) → a_low ≡ low_at at a → b_low ≡ low_at at b → a_high ≡ high_at at a → b_high ≡ high_at at b → ArePartsOf op t a b at a_low b_low a_high b_high
parts-of op t a b has_a has_b row at at_is a_low b_low a_high b_high al bl ah bh =
    subst (λ (x : Cond). ArePartsOf op t a b at x b_low a_high b_high) (sym al)
    (subst (λ (x : Cond). ArePartsOf op t a b at (low_at at a) x a_high b_high) (sym bl)
    (subst (λ (x : Cond). ArePartsOf op t a b at (low_at at a) (low_at at b) x b_high) (sym ah)
    (subst (λ (x : Cond). ArePartsOf op t a b at (low_at at a) (low_at at b) (high_at at a) x) (sym bh)
    (parts-at op t a b has_a has_b row at at_is))))

module _ (op : Op) (t : Table) (a b : Cond) (at : ℕ) (a_low b_low a_high b_high : Cond) (parts : ArePartsOf op t a b at a_low b_low a_high b_high) where
  abbrev f : Meaning
  f = joined op (value a) (value b)

  abbrev f_low : Meaning
  f_low = joined op (value a_low) (value b_low)

  abbrev f_high : Meaning
  f_high = joined op (value a_high) (value b_high)

  pub stop-low : (q : ℕ) (u : Table) (e : RowsStop) → Outcome f_low q t u (Err e) → (first : ℕ) → Outcome f first t u (Err e)
  stop-low q u e o first = outcome-stop f f_low first q t u e parts.left_low o

  module _ (u : Table) (x : Cond) (low : Outcome f_low (first_of t.options a_low b_low) t u (Ok x)) where
    gains_low : Gains (IsLeftover f) t u
    gains_low = gains-weaken (λ g. leftover-trans f f_low g parts.left_low) low.gains

    pub has-high_a : Has u a_high
    has-high_a = keeps low.gains a_high parts.has_a_high

    pub has-high_b : Has u b_high
    has-high_b = keeps low.gains b_high parts.has_b_high

    pub high-falls : u.options - first_of u.options a_high b_high < t.options - first_of t.options a b
    high-falls =
        subst (λ (o : ℕ). o - first_of o a_high b_high < t.options - first_of t.options a b) (sym low.gains.same_options)
        (omega (arith, parts.first, parts.in_range, parts.high_rises))

    pub stop-high : (q : ℕ) (v : Table) (e : RowsStop) → Outcome f_high q u v (Err e) → (first : ℕ) → Outcome f first t v (Err e)
    stop-high q v e o first = outcome-after f first t u v (Err e) gains_low (outcome-stop f f_high first q u v e parts.left_high o)

    module _ (v : Table) (y : Cond) (high : Outcome f_high (first_of u.options a_high b_high) u v (Ok y)) where
      pub low-has : Has v x
      low-has = keeps high.gains x low.answer.has

      pub low-rises : at < first_option v.options x
      low-rises = subst (λ (o : ℕ). at < first_option o x) (sym (high.gains.same_options)) (omega (arith, low.answer.rises, parts.low_rises, low.gains.same_options))

      pub high-rises : at < first_option v.options y
      high-rises =
          let r : first_of t.options a_high b_high ≤ first_option v.options y =
          subst (λ (o : ℕ). first_of o a_high b_high ≤ first_option v.options y) low.gains.same_options high.answer.rises in
          omega (arith, parts.high_rises)

      pub finish : (w : Table) (r : Result Cond RowsStop) → Outcome (branch at (value x) (value y)) at v w r → Outcome f (first_of t.options a b) t w r
      finish w r o =
          let gains_high = gains-weaken (λ g. leftover-trans f f_high g parts.left_high) high.gains in
          outcome-after f (first_of t.options a b) t v w r (gains-trans gains_low gains_high)
          (subst (λ (n : ℕ). Outcome f n v w r) parts.first
          (subst (λ (g : Meaning). Outcome g at v w r) (same (λ c. (λ i. cond (c at) (high.answer.valued c i) (low.answer.valued c i)) ∙ sym (parts.split c))) o))

-- ---- the memo

-- two numbers are those of a key in one of two orders
pub rising-same : (x y p q : ℕ) → rising x y ≡ rising p q → ((x ≡ p) × (y ≡ q)) ⊎ ((x ≡ q) × (y ≡ p))
rising-same x y p q e =
    let lesser : min x y ≡ min p q = ap (λ k. k.0) e in
    let greater : max x y ≡ max p q = ap (λ k. k.1) e in
    elim (cases_eq x p) [
      | inl same ↦ inl (same, omega arith)
      | inr other ↦ inr (omega arith, omega arith)
    ]

joins-comm : (op : Op) (x y : Bool) → joins op x y ≡ joins op y x
joins-comm And true true = refl
joins-comm And true false = refl
joins-comm And false true = refl
joins-comm And false false = refl
joins-comm Or true true = refl
joins-comm Or true false = refl
joins-comm Or false true = refl
joins-comm Or false false = refl
joins-comm Differ true true = refl
joins-comm Differ true false = refl
joins-comm Differ false true = refl
joins-comm Differ false false = refl

-- what is noted of two numbers holds of every two conditions of these numbers, in either order
pub noted-answer : (op : Op) (t : Table) (a b : Cond) → Has t a → Has t b → (x : Cond) → IsNoted op t (rising (number_of a) (number_of b)) x → IsAnswer (joined op (value a) (value b)) (first_of t.options a b) t x
noted-answer op t a b has_a has_b x n =
    elim (rising-same (number_of n.a) (number_of n.b) (number_of a) (number_of b) n.numbered) [
      | inl w ↦
          let v = same_value t.options t.rows n.a a n.has_a has_a w.0 in
          let u = same_value t.options t.rows n.b b n.has_b has_b w.1 in
          record {
            has = n.noted.has;
            valued = λ c. n.noted.valued c ∙ λ i. joins op (v i c) (u i c);
            rises = omega (arith, n.noted.rises, same_first_option t.options t.rows n.a a n.has_a has_a w.0, same_first_option t.options t.rows n.b b n.has_b has_b w.1);
          }
      | inr w ↦
          let v = same_value t.options t.rows n.a b n.has_a has_b w.0 in
          let u = same_value t.options t.rows n.b a n.has_b has_a w.1 in
          record {
            has = n.noted.has;
            valued = λ c. n.noted.valued c ∙ (λ i. joins op (v i c) (u i c)) ∙ joins-comm op (value b c) (value a c);
            rises = omega (arith, n.noted.rises, same_first_option t.options t.rows n.a b n.has_a has_b w.0, same_first_option t.options t.rows n.b a n.has_b has_a w.1);
          }
    ]

-- the answer of a join is noted
pub noted-new : (op : Op) (t u : Table) (a b : Cond) → Has t a → Has t b → (key : ℕ × ℕ) → key ≡ rising (number_of a) (number_of b) → (x : Cond) → Outcome (joined op (value a) (value b)) (first_of t.options a b) t u (Ok x) → IsNoted op u key x
noted-new op t u a b has_a has_b key key_is x o = record {
  a = a;
  b = b;
  has_a = keeps o.gains a has_a;
  has_b = keeps o.gains b has_b;
  numbered = sym key_is;
  noted = subst (λ (n : ℕ). IsAnswer (joined op (value a) (value b)) (first_of n a b) u x) (sym o.gains.same_options) o.answer;
}

pub noted-keeps : {P : Meaning → Type 0} (op : Op) (t u : Table) (key : ℕ × ℕ) (x : Cond) → Gains P t u → IsNoted op t key x → IsNoted op u key x
noted-keeps op t u key x g n = record {
  a = n.a;
  b = n.b;
  has_a = keeps g n.a n.has_a;
  has_b = keeps g n.b n.has_b;
  numbered = n.numbered;
  noted =
      subst (λ (o : ℕ). IsAnswer (joined op (value n.a) (value n.b)) (first_of o n.a n.b) u x) (sym g.same_options)
      (answer-keeps g (joined op (value n.a) (value n.b)) (first_of t.options n.a n.b) x n.noted);
}

pub pair_eq-true : (x y : ℕ × ℕ) → pair_eq x y ≡ true → x ≡ y
pair_eq-true x y h =
    let p = and_parts (eqb x.0 y.0) (eqb x.1 y.1) h in
    let a = eqb-true x.0 y.0 p.0 in
    let b = eqb-true x.1 y.1 p.1 in
    λ i. (a i, b i)

-- a memo with one more note
pub memo-insert : {P : Meaning → Type 0} {S : Type 0} (op : Op) (t u : Table) (m n : HashMap (ℕ × ℕ) Cond S) (key : ℕ × ℕ) (x : Cond) → Gains P t u
    → IsMemo op t m → Updates pair_eq m n key (Some x) → IsNoted op u key x → IsMemo op u n
memo-insert op t u m n key x g memo updates noted q y at =
    elim (cases_Bool (pair_eq key q)) [
      | inl e ↦
          let s = same_Some x y (sym (ap (λ b. cond b (Some x) (get pair_eq m q)) e) ∙ sym (updates.0 q) ∙ at) in
          subst (λ (z : Cond). IsNoted op u q z) s (subst (λ (k : ℕ × ℕ). IsNoted op u k x) (pair_eq-true key q e) noted)
      | inr e ↦ noted-keeps op t u q y g (memo q y (sym (ap (λ b. cond b (Some x) (get pair_eq m q)) e) ∙ sym (updates.0 q) ∙ at))
    ]
