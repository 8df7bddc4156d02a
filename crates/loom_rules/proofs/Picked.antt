-- What a list of entries gives, entry by entry, where a test passes.
use Rattle.std.proofs.Common.{◌≡◌, Bool, true, false, cond, append_assoc, List, [], ◌∷◌, ◌++◌, refl, sym, ◌∙◌, ap, subst, ◌⊎◌, inl, inr, arith}
use Rattle.std.proofs.lemmas.Bool.{false≢true}
use Rattle.std.specs.Prelude.{Contains}
use Rattle.std.specs.List.{AllByRecursion}
use Rattle.std.specs.Map.{keys_of}
use Rattle.std.specs.declared.cmp.Ordering.{Ordering}
use Rattle.std.specs.declared.cmp.Ordering.TheVariants.{Less}
use Rattle.std.specs.List.Sorted.{IsStrictlySortedBy}
use Rattle.std.proofs.lemmas.List.Elements.{Contains-append_left, Contains-append_right, Contains-append_cases, Contains-push, Contains-push_cases}

abbrev pub picked : {E F : Type 0} → (E → Bool) → (E → F) → List E → List F
picked p f [] = []
picked p f (e ∷ es) = cond (p e) (f e ∷ picked p f es) (picked p f es)

-- the first entry is taken, or not
pub picked-yes : {E F : Type 0} (p : E → Bool) (f : E → F) (found all : List F) (e : E) (es : List E) → p e ≡ true
    → found ++ picked p f (e ∷ es) ≡ all → (found ++ f e ∷ []) ++ picked p f es ≡ all
picked-yes p f found all e es passes so =
    append_assoc found (f e ∷ []) (picked p f es)
    ∙ ap (λ (b : Bool). found ++ cond b (f e ∷ picked p f es) (picked p f es)) (sym passes) ∙ so

pub picked-no : {E F : Type 0} (p : E → Bool) (f : E → F) (found all : List F) (e : E) (es : List E) → p e ≡ false
    → found ++ picked p f (e ∷ es) ≡ all → found ++ picked p f es ≡ all
picked-no p f found all e es fails so =
    ap (λ (b : Bool). found ++ cond b (f e ∷ picked p f es) (picked p f es)) (sym fails) ∙ so

pub contains-first : {F : Type 0} (x : F) (xs : List F) → Contains (x ∷ xs) x
contains-first x xs = Contains-append_left (x ∷ []) xs x (Contains-push [] x)

pub contains-later : {F : Type 0} (x y : F) (xs : List F) → Contains xs y → Contains (x ∷ xs) y
contains-later x y xs h = Contains-append_right (x ∷ []) xs y h

pub contains-none : {F : Type 0} (y : F) → Contains [] y → ⊥
contains-none y h = omega (arith, h.1)

pub contains-cases : {F : Type 0} (x y : F) (xs : List F) → Contains (x ∷ xs) y → (x ≡ y) ⊎ Contains xs y
contains-cases x y xs h =
    elim (Contains-append_cases (x ∷ []) xs y h) [
      | inl one ↦ elim (Contains-push_cases [] x y one) [ inl none ↦ absurd (contains-none y none) | inr e ↦ inl e ]
      | inr more ↦ inr more
    ]

module _ {E F : Type 0} (p : E → Bool) (f : E → F) where
  -- x comes from an entry that passes
  abbrev pub ComesFrom : List E → F → Type 0
  ComesFrom es x = (e : E) × Contains es e × (p e ≡ true) × (f e ≡ x)

  from-later : (e : E) (es : List E) (x : F) → ComesFrom es x → ComesFrom (e ∷ es) x
  from-later e es x from = (from.0, contains-later e from.0 es from.1, from.2, from.3)

  from-cons : (e : E) (es : List E) (x : F) → (Contains (picked p f es) x → ComesFrom es x) → (b : Bool) → p e ≡ b
      → Contains (cond b (f e ∷ picked p f es) (picked p f es)) x → ComesFrom (e ∷ es) x
  from-cons e es x rest true passes h =
      elim (contains-cases (f e) x (picked p f es) h) [
        | inl is ↦ (e, contains-first e es, passes, is)
        | inr more ↦ from-later e es x (rest more)
      ]
  from-cons e es x rest false fails h = from-later e es x (rest h)

  -- what is picked comes from an entry that passes
  pub from_picked : (es : List E) (x : F) → Contains (picked p f es) x → ComesFrom es x
  from_picked [] x h = absurd (contains-none x h)
  from_picked (e ∷ es) x h = from-cons e es x (from_picked es x) (p e) refl h

  into-cons : (d e : E) (es : List E) (b : Bool) → p d ≡ b → p e ≡ true → (Contains es e → Contains (picked p f es) (f e))
      → Contains (d ∷ es) e → Contains (cond b (f d ∷ picked p f es) (picked p f es)) (f e)
  into-cons d e es true y passes rest h =
      elim (contains-cases d e es h) [
        | inl is ↦
            subst (λ (x : F). Contains (x ∷ picked p f es) (f e)) (sym (ap f is)) (contains-first (f e) (picked p f es))
        | inr more ↦ contains-later (f d) (f e) (picked p f es) (rest more)
      ]
  into-cons d e es false n passes rest h =
      elim (contains-cases d e es h) [
        | inl is ↦ absurd (false≢true (sym n ∙ ap p is ∙ passes))
        | inr more ↦ rest more
      ]

  -- an entry that passes is picked
  pub into_picked : (es : List E) (e : E) → Contains es e → p e ≡ true → Contains (picked p f es) (f e)
  into_picked [] e h passes = absurd (contains-none e h)
  into_picked (d ∷ es) e h passes = into-cons d e es (p d) refl passes (λ more. into_picked es e more passes) h

module _ {K V F : Type 0} (p : K × V → Bool) (f : K × V → F) (R : K → K → Ordering) (S : F → F → Ordering)
    (keeps : (d e : K × V) → R d.0 e.0 ≡ Less → S (f d) (f e) ≡ Less) where
  above-cons : (d e : K × V) (es : List (K × V)) (b : Bool) → S (f d) (f e) ≡ Less
      → AllByRecursion (λ x. S (f d) x ≡ Less) (picked p f es)
      → AllByRecursion (λ x. S (f d) x ≡ Less) (cond b (f e ∷ picked p f es) (picked p f es))
  above-cons d e es true first rest = (first, rest)
  above-cons d e es false first rest = rest

  picked-above : (d : K × V) (es : List (K × V)) → AllByRecursion (λ k. R d.0 k ≡ Less) (keys_of es)
      → AllByRecursion (λ x. S (f d) x ≡ Less) (picked p f es)
  picked-above d [] h = tt
  picked-above d (e ∷ es) h = above-cons d e es (p e) (keeps d e h.0) (picked-above d es h.1)

  rising-cons : (e : K × V) (es : List (K × V)) (b : Bool) → AllByRecursion (λ x. S (f e) x ≡ Less) (picked p f es)
      → IsStrictlySortedBy S (picked p f es) → IsStrictlySortedBy S (cond b (f e ∷ picked p f es) (picked p f es))
  unfolding IsStrictlySortedBy
  rising-cons e es true above rest = (above, rest)
  rising-cons e es false above rest = rest

  -- what is picked of entries in order is in order
  pub picked-rising : (es : List (K × V)) → IsStrictlySortedBy R (keys_of es) → IsStrictlySortedBy S (picked p f es)
  unfolding IsStrictlySortedBy
  picked-rising [] h = tt
  picked-rising (e ∷ es) h = rising-cons e es (p e) (picked-above e es h.0) (picked-rising es h.1)
