-- Lists: no line fails where each has a property, none differs where two lists agree, and tests that agree keep the same elements.
use Rattle.std.proofs.Common.{◌≡◌, ◌↔◌, ℕ, Bool, true, cond, List, [], ◌∷◌, refl, sym, ap, ◌∙◌, arith, Contains, filter, inl, inr}
use Rattle.std.proofs.lemmas.Bool.{cases_Bool, false_from_ne_true, false≢true}
use Rattle.std.proofs.lemmas.Option.{slice_get_within}
use Rattle.loom_base.proofs.Contained.{Contains-here, Contains-cons}
use Rattle.loom_audit.specs.FirstFailure.{Each, IsFirstWithout, Agree, Differ, apart, missing, spare}

pub none_without : {X : Type 0} (P : ℕ → X → Type 0) (xs : List X) (at : ℕ) → Each P xs → IsFirstWithout P xs at → ⊥
none_without P xs at each first = first.fails (each at first.element first.stands)

pub never_differ : {A B : Type 0} (Same : A → B → Type 0) (stated : List A) (printed : List B) (at : ℕ) → Agree Same stated printed
    → Differ Same stated printed at → ⊥
never_differ Same stated printed at agree (apart s p at_s at_p not_same) =
    not_same (agree.lines at s p (slice_get_within printed at p at_p) at_s at_p)
never_differ Same stated printed at agree (missing e within) = let counted = agree.counted in absurd (omega (arith, counted, e, within))
never_differ Same stated printed at agree (spare e within) = let counted = agree.counted in absurd (omega (arith, counted, e, within))

-- two tests that agree at each member keep the same members
pub filter-alike : {X : Type 0} (p q : X → Bool) (xs : List X) → ((x : X) → Contains xs x → (p x ≡ true) ↔ (q x ≡ true))
    → filter p xs ≡ filter q xs
filter-alike p q [] same = refl
filter-alike {X} p q (x ∷ xs) same =
    let rest = filter-alike p q xs (λ y listed. same y (Contains-cons y x xs listed)) in
    let here = same x (Contains-here x xs) in
    elim (cases_Bool (q x)) [
      | inl holds ↦
          ap (λ (b : Bool). cond b (x ∷ filter p xs) (filter p xs)) (here.1 holds)
          ∙ ap (λ (l : List X). x ∷ l) rest
          ∙ sym (ap (λ (b : Bool). cond b (x ∷ filter q xs) (filter q xs)) holds)
      | inr lacks ↦
          ap (λ (b : Bool). cond b (x ∷ filter p xs) (filter p xs))
          (false_from_ne_true (p x) (λ passes. false≢true (sym lacks ∙ here.0 passes)))
          ∙ rest
          ∙ sym (ap (λ (b : Bool). cond b (x ∷ filter q xs) (filter q xs)) lacks)
    ]
