-- The lines at the places of those with a property, in order, are those with the property.
use Rattle.std.proofs.Common.{◌≡◌, ◌↔◌, ℕ, zero, suc, ◌+◌, ◌<◌, ◌≤◌, inl, inr, Bool, cond, List, [], ◌∷◌, ◌++◌, Option, Some, length, take, filter, refl, sym, ap, ap₂, subst, ◌∙◌, arith, append-nil, IsTrue, slice_get, Contains}
use Rattle.std.specs.List.{AllPairs, filter_map}
use Rattle.std.proofs.lemmas.Bool.{cases_Bool, false≢true}
use Rattle.std.proofs.lemmas.List.{take_more, take_all, length-take-le}
use Rattle.std.proofs.lemmas.List.Elements.{All-contains, filter-append, filter_map-append}
use Rattle.std.proofs.lemmas.Option.{get_or_from_slice_get}
use Rattle.loom_base.proofs.Contained.{Contains-here, Contains-cons, Contains-cases}
use Rattle.loom_active.proofs.Pairs.{pairs-head, pairs-tail}
use Rattle.loom_check.specs.MetParts.{ArePlaces}
use Rattle.loom_check.proofs.AgreeingLines.{element}
use Rattle.loom_check.proofs.MetPlaces.{places-none, places-with, places-without}

abbrev IsLess : ℕ → ℕ → Type 0
IsLess one other = one < other

-- rising lists with the same members are equal
same-rising : (xs ys : List ℕ) → AllPairs IsLess xs → AllPairs IsLess ys → ((x : ℕ) → Contains xs x ↔ Contains ys x) → xs ≡ ys
same-rising [] [] rising_xs rising_ys same = refl
same-rising [] (b ∷ ys) rising_xs rising_ys same = let (k, below, at) = (same b).1 (Contains-here b ys) in absurd (omega (arith, below))
same-rising (a ∷ xs) [] rising_xs rising_ys same = let (k, below, at) = (same a).0 (Contains-here a xs) in absurd (omega (arith, below))
same-rising (a ∷ xs) (b ∷ ys) rising_xs rising_ys same =
    let later_a : (x : ℕ) → Contains xs x → a < x = λ x at. pairs-head IsLess a xs rising_xs x at in
    let later_b : (x : ℕ) → Contains ys x → b < x = λ x at. pairs-head IsLess b ys rising_ys x at in
    let heads : a ≡ b = elim (Contains-cases a b ys ((same a).0 (Contains-here a xs))) [
      | inl e ↦ sym e
      | inr a_later ↦ elim (Contains-cases b a xs ((same b).1 (Contains-here b ys))) [
        | inl e ↦ e
        | inr b_later ↦ absurd (omega (arith, later_b a a_later, later_a b b_later))
      ]
    ] in
    let tails : (x : ℕ) → Contains xs x ↔ Contains ys x = λ x. (
      λ at. elim (Contains-cases x b ys ((same x).0 (Contains-cons x a xs at))) [
        | inl e ↦ absurd (omega (arith, e, heads, later_a x at))
        | inr later ↦ later
      ],
      λ at. elim (Contains-cases x a xs ((same x).1 (Contains-cons x b ys at))) [
        | inl e ↦ absurd (omega (arith, e, heads, later_b x at))
        | inr later ↦ later
      ],
    ) in
    ap₂ (λ (x : ℕ) (xs : List ℕ). x ∷ xs) heads
    (same-rising xs ys (pairs-tail IsLess a xs rising_xs) (pairs-tail IsLess b ys rising_ys) tails)

module _ {X : Type 0} (p : X → Bool) (xs : List X) where
  abbrev Passes : X → Type 0
  Passes x = IsTrue (p x)

  -- the places of those that pass among the first k, and that they pick these
  record ArePicked (k : ℕ) : Type 0 where
    positions : List ℕ
    places : ArePlaces Passes (take k xs) positions
    picked : filter_map (slice_get xs) positions ≡ filter p (take k xs)

  one-picked : (k : ℕ) (x : X) → slice_get xs k ≡ Some x → filter_map (slice_get xs) (k ∷ []) ≡ x ∷ []
  one-picked k x is = ap (λ (o : Option X). filter_map (λ (y : Option X). y) (o ∷ [])) is

  picked-next : (k : ℕ) → k < length xs → ArePicked k → (x : X) → slice_get xs k ≡ Some x → take (k + 1) xs ≡ take k xs ++ x ∷ [] → ArePicked (k + 1)
  picked-next k within before x stands more = elim (cases_Bool (p x)) [
    | inl passes ↦ record {
      positions = before.positions ++ k ∷ [];
      places =
          subst (λ (l : List X). ArePlaces Passes l (before.positions ++ k ∷ [])) (sym more)
          (subst (λ (n : ℕ). ArePlaces Passes (take k xs ++ x ∷ []) (before.positions ++ n ∷ []))
          (length-take-le k xs (omega (arith, within)))
          (places-with Passes (take k xs) x before.positions before.places passes));
      picked =
          filter_map-append (slice_get xs) before.positions (k ∷ [])
          ∙ ap₂ (λ (l m : List X). l ++ m) before.picked (one-picked k x stands)
          ∙ sym (ap (filter p) more ∙ filter-append p (take k xs) (x ∷ []) ∙ ap (λ (b : Bool). filter p (take k xs) ++ cond b (x ∷ []) []) passes);
    }
    | inr fails ↦ record {
      positions = before.positions;
      places =
          subst (λ (l : List X). ArePlaces Passes l before.positions) (sym more)
          (places-without Passes (take k xs) x before.positions before.places (λ passes. false≢true (sym fails ∙ passes)));
      picked =
          before.picked
          ∙ sym (ap (filter p) more ∙ filter-append p (take k xs) (x ∷ []) ∙ ap (λ (b : Bool). filter p (take k xs) ++ cond b (x ∷ []) []) fails
          ∙ append-nil (filter p (take k xs)));
    }
  ]

  picked-first : (k : ℕ) → k ≤ length xs → ArePicked k
  picked-first zero within = record { positions = []; places = places-none Passes; picked = refl }
  picked-first (suc k) within =
      let here : k < length xs = omega (arith, within) in
      let one : k + 1 ≡ suc k = omega arith in
      let (x, stands) = element xs k here in
      let more : take (k + 1) xs ≡ take k xs ++ x ∷ [] =
      take_more xs k x here ∙ ap (λ (y : X). take k xs ++ y ∷ []) (get_or_from_slice_get xs k x x stands) in
      subst ArePicked one (picked-next k here (picked-first k (omega (arith, within))) x stands more)

  picked-all : (k : ℕ) → k ≡ length xs → ArePicked k → (positions : List ℕ) → ArePlaces Passes xs positions → filter_map (slice_get xs) positions ≡ filter p xs
  picked-all k all are positions places =
      let whole : take k xs ≡ xs = take_all k xs (omega (arith, all)) in
      let own : ArePlaces Passes xs are.positions = subst (λ (l : List X). ArePlaces Passes l are.positions) whole are.places in
      let same : positions ≡ are.positions = same-rising positions are.positions places.rising own.rising (λ at. (one_way positions are.positions places own at, one_way are.positions positions own places at)) in
      ap (filter_map (slice_get xs)) same ∙ are.picked ∙ ap (filter p) whole
    where
      one_way : (ps qs : List ℕ) → ArePlaces Passes xs ps → ArePlaces Passes xs qs → (at : ℕ) → Contains ps at → Contains qs at
      one_way ps qs a b at listed =
          let (x, stands) = element xs at (All-contains (λ n. n < length xs) ps at a.within listed) in (b.each at x stands).1 ((a.each at x stands).0 listed)

  pub places-pick : (positions : List ℕ) → ArePlaces Passes xs positions → filter_map (slice_get xs) positions ≡ filter p xs
  places-pick positions places = picked-all (length xs) refl (picked-first (length xs) (omega arith)) positions places
