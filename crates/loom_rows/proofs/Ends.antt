-- Two conditions whose numbers alone show how they join.
use Rattle.std.proofs.Common.{◌≡◌, ℕ, ◌⊎◌, inl, inr, Bool, true, false, ◌&&◌, ◌||◌, min, refl, sym, ap, ◌∙◌, arith}
use Rattle.loom_rows.specs.declared.cond.Cond.{Cond, Never, Always}
use Rattle.loom_rows.specs.declared.op.Op.TheVariants.{And, Or, Differ}
use Rattle.loom_rows.specs.Condition.{Meaning, value, number_of, first_option}
use Rattle.loom_rows.specs.Table.{Table, Has}
use Rattle.loom_rows.specs.Leftovers.{AreSame}
use Rattle.loom_rows.specs.Outcome.{differ, joined, IsAnswer}
use Rattle.loom_rows.proofs.Conditions.{number-end, same_value, first_option-le}

and_same : (x : Bool) → x ≡ (x && x)
and_same true = refl
and_same false = refl

and_true : (x : Bool) → x ≡ (x && true)
and_true true = refl
and_true false = refl

and_false : (x : Bool) → false ≡ (x && false)
and_false true = refl
and_false false = refl

or_same : (x : Bool) → x ≡ (x || x)
or_same true = refl
or_same false = refl

or_false : (x : Bool) → x ≡ (x || false)
or_false true = refl
or_false false = refl

or_true : (x : Bool) → true ≡ (x || true)
or_true true = refl
or_true false = refl

differ_same : (x : Bool) → false ≡ differ x x
differ_same true = refl
differ_same false = refl

differ_false : (x : Bool) → x ≡ differ x false
differ_false true = refl
differ_false false = refl

module _ (t : Table) (a b : Cond) (has_a : Has t a) (has_b : Has t b) where
  abbrev First : ℕ
  First = min (first_option t.options a) (first_option t.options b)

  never_a : number_of a ≡ 0 → Never ≡ a
  never_a e = number-end t.options t.rows Never a tt has_a (omega arith) (sym e)

  always_a : number_of a ≡ 1 → Always ≡ a
  always_a e = number-end t.options t.rows Always a tt has_a (omega arith) (sym e)

  never_b : number_of b ≡ 0 → Never ≡ b
  never_b e = number-end t.options t.rows Never b tt has_b (omega arith) (sym e)

  always_b : number_of b ≡ 1 → Always ≡ b
  always_b e = number-end t.options t.rows Always b tt has_b (omega arith) (sym e)

  left : (f : Meaning) → AreSame (value a) f → IsAnswer f First t a
  left f e = record { has = has_a; valued = e; rises = omega arith }

  right : (f : Meaning) → AreSame (value b) f → IsAnswer f First t b
  right f e = record { has = has_b; valued = e; rises = omega arith }

  pub and-left : (number_of a ≡ number_of b) ⊎ ((number_of a ≡ 0) ⊎ (number_of b ≡ 1)) → IsAnswer (joined And (value a) (value b)) First t a
  and-left (inl e) = left _ (λ c. and_same (value a c) ∙ ap (λ f. value a c && f c) (same_value t.options t.rows a b has_a has_b e))
  and-left (inr (inl e)) = left _ (λ c. ap (λ x. value x c) (sym (never_a e)) ∙ ap (λ x. value x c && value b c) (never_a e))
  and-left (inr (inr e)) = left _ (λ c. and_true (value a c) ∙ ap (λ x. value a c && value x c) (always_b e))

  pub and-right : (number_of a ≡ 1) ⊎ (number_of b ≡ 0) → IsAnswer (joined And (value a) (value b)) First t b
  and-right (inl e) = right _ (λ c. ap (λ x. value x c && value b c) (always_a e))
  and-right (inr e) = right _ (λ c. ap (λ x. value x c) (sym (never_b e)) ∙ and_false (value a c) ∙ ap (λ x. value a c && value x c) (never_b e))

  pub or-left : (number_of a ≡ number_of b) ⊎ ((number_of a ≡ 1) ⊎ (number_of b ≡ 0)) → IsAnswer (joined Or (value a) (value b)) First t a
  or-left (inl e) = left _ (λ c. or_same (value a c) ∙ ap (λ f. value a c || f c) (same_value t.options t.rows a b has_a has_b e))
  or-left (inr (inl e)) = left _ (λ c. ap (λ x. value x c) (sym (always_a e)) ∙ ap (λ x. value x c || value b c) (always_a e))
  or-left (inr (inr e)) = left _ (λ c. or_false (value a c) ∙ ap (λ x. value a c || value x c) (never_b e))

  pub or-right : (number_of a ≡ 0) ⊎ (number_of b ≡ 1) → IsAnswer (joined Or (value a) (value b)) First t b
  or-right (inl e) = right _ (λ c. ap (λ x. value x c || value b c) (never_a e))
  or-right (inr e) = right _ (λ c. ap (λ x. value x c) (sym (always_b e)) ∙ or_true (value a c) ∙ ap (λ x. value a c || value x c) (always_b e))

  pub differ-never : number_of a ≡ number_of b → IsAnswer (joined Differ (value a) (value b)) First t Never
  differ-never e = record {
    has = tt;
    valued = λ c. differ_same (value a c) ∙ ap (λ f. differ (value a c) (f c)) (same_value t.options t.rows a b has_a has_b e);
    rises = omega (arith, first_option-le t.options t.rows a has_a);
  }

  pub differ-right : number_of a ≡ 0 → IsAnswer (joined Differ (value a) (value b)) First t b
  differ-right e = right _ (λ c. ap (λ x. differ (value x c) (value b c)) (never_a e))

  pub differ-left : number_of b ≡ 0 → IsAnswer (joined Differ (value a) (value b)) First t a
  differ-left e = left _ (λ c. differ_false (value a c) ∙ ap (λ x. differ (value a c) (value x c)) (never_b e))
