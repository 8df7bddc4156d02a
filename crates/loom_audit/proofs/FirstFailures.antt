-- One more element of a list has a property, or is the first without it.
use Rattle.std.proofs.Common.{◌≡◌, ℕ, ◌+◌, ◌<◌, ◌≤◌, List, length, get_or, slice_get, Some, inl, inr, refl, sym, ap, subst, ◌∙◌, arith}
use Rattle.std.proofs.lemmas.Bool.{cases_lt}
use Rattle.std.proofs.lemmas.Option.{slice_get_read, slice_get_within}
use Rattle.loom_audit.specs.FirstFailure.{Each, EachBefore, IsFirstWithout}

module _ {A : Type 0} (Q : A → Type 0) (items lines : List A) (n : ℕ) (before : EachBefore (λ i x. Q x) items n) where
  pub each_next : (x : A) → n < length items → x ≡ get_or items n x → Q x → EachBefore (λ i x. Q x) items (n + 1)
  each_next x less is holds = λ i y below at. elim (cases_lt i n) [
    | inl lower ↦ before i y lower at
    | inr past ↦
        let same : i ≡ n = omega (arith, below, past) in
        let found : Some x ≡ Some y = sym (slice_get_read items (length items) n x refl less is) ∙ (ap (slice_get items) (sym same) ∙ at) in
        let e : x ≡ y = (cc) in
        subst Q e holds
  ]

  pub each_one : items ≡ lines → length items ≤ n → Each (λ i x. Q x) lines
  each_one same all =
      let each : Each (λ i x. Q x) items = λ i x at. before i x (let less : i < length items = slice_get_within items i x at in omega (arith, less, all)) at in
      subst (λ (xs : List A). Each (λ i x. Q x) xs) same each

  pub first_without : (x : A) → items ≡ lines → n < length items → x ≡ get_or items n x → (Q x → ⊥) → IsFirstWithout (λ i x. Q x) lines n
  first_without x same less is fails =
      let first : IsFirstWithout (λ i x. Q x) items n =
      record { element = x; stands = slice_get_read items (length items) n x refl less is; fails = fails; before = before } in
      subst (λ (xs : List A). IsFirstWithout (λ i x. Q x) xs n) same first
