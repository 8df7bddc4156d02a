-- What stands once in a list whose elements are in a strict order.
use Rattle.std.proofs.Common.{◌≡◌, ℕ, Bool, true, false, cond, List, [], ◌∷◌, get_or, refl, sym, ap, subst, ◌∙◌, arith, Contains, inl, inr, count_by}
use Rattle.std.specs.List.{AllPairs}
use Rattle.std.proofs.lemmas.Bool.{cases_order, cond-true, cond-false, false_from_ne_true}
use Rattle.std.proofs.lemmas.List.{get_or_default}
use Rattle.std.proofs.lemmas.List.Sums.{sum_by-cons}
use Rattle.loom_base.proofs.Contained.{Contains-here, Contains-cons, Contains-cases}
use Rattle.loom_active.proofs.Pairs.{pairs-cons, pairs-none, pairs-head, pairs-tail}

module _ {X : Type 0} (p : X → Bool) where
  count-none : (xs : List X) → ((x : X) → Contains xs x → p x ≡ false) → ◌≡◌ {A = ℕ} (count_by p xs) 0
  count-none [] lacks = refl
  count-none (x ∷ xs) lacks =
      let here : ◌≡◌ {A = ℕ} (cond (p x) 1 0) 0 = cond-false (p x) 1 0 (lacks x (Contains-here x xs)) in
      let rest = count-none xs (λ y at. lacks y (Contains-cons y x xs at)) in
      omega (arith, here, rest, sum_by-cons (λ y. cond (p y) 1 0) x xs)

  -- two of the elements don't both pass
  abbrev pub AreRivals : X → X → Type 0
  AreRivals a b = p a ≡ true → p b ≡ true → ⊥

  -- one passes, and no two
  pub count-once : (xs : List X) (x : X) → Contains xs x → p x ≡ true → AllPairs AreRivals xs → count_by p xs ≡ 1
  count-once [] x (k, below, at) passes rivals = absurd (omega (arith, below))
  count-once (y ∷ ys) x listed passes rivals = elim (Contains-cases x y ys listed) [
    | inl same ↦
        let own : p y ≡ true = ap p same ∙ passes in
        let here : ◌≡◌ {A = ℕ} (cond (p y) 1 0) 1 = cond-true (p y) 1 0 own in
        let rest = count-none ys (λ z at. false_from_ne_true (p z) (λ other. pairs-head AreRivals y ys rivals z at own other)) in
        omega (arith, here, rest, sum_by-cons (λ z. cond (p z) 1 0) y ys)
    | inr later ↦
        let lacks : p y ≡ false = false_from_ne_true (p y) (λ own. pairs-head AreRivals y ys rivals x later own passes) in
        let here : ◌≡◌ {A = ℕ} (cond (p y) 1 0) 0 = cond-false (p y) 1 0 lacks in
        let rest = count-once ys x later passes (pairs-tail AreRivals y ys rivals) in
        omega (arith, here, rest, sum_by-cons (λ z. cond (p z) 1 0) y ys)
  ]

module _ {X : Type 0} (R : X → X → Type 0) where
  -- elements of which neither comes before the other are one
  pub same-member : (xs : List X) → AllPairs R xs → (a b : X) → Contains xs a → Contains xs b → (R a b → ⊥) → (R b a → ⊥) → a ≡ b
  same-member xs all a b (i, i_in, at_i) (j, j_in, at_j) not_before not_behind =
      let at_j_a : get_or xs j a ≡ b = get_or_default xs j a b j_in ∙ at_j in
      elim (cases_order i j) [
        | inl e ↦ sym at_i ∙ (ap (λ (k : ℕ). get_or xs k a) e ∙ at_j_a)
        | inr (inl less) ↦
            absurd (not_before (subst (λ (y : X). R a y) at_j_a (subst (λ (x : X). R x (get_or xs j a)) at_i (all i j a less j_in))))
        | inr (inr more) ↦
            absurd (not_behind (subst (λ (y : X). R b y) at_i (subst (λ (x : X). R x (get_or xs i a)) at_j_a (all j i a more i_in))))
      ]

  -- what holds of members in order holds of all pairs
  pub pairs-from_members : (S : X → X → Type 0) (xs : List X) → AllPairs R xs
      → ((a b : X) → Contains xs a → Contains xs b → R a b → S a b) → AllPairs S xs
  pairs-from_members S [] all then = pairs-none S
  pairs-from_members S (x ∷ xs) all then =
      pairs-cons S x xs
      (λ y at. then x y (Contains-here x xs) (Contains-cons y x xs at) (pairs-head R x xs all y at))
      (pairs-from_members S xs (pairs-tail R x xs all)
      (λ a b in_a in_b before. then a b (Contains-cons a x xs in_a) (Contains-cons b x xs in_b) before))
