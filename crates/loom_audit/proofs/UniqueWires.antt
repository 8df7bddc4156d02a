-- Two lists of wires in strict order with the same members are equal.
use Rattle.std.proofs.Common.{◌≡◌, ℕ, zero, suc, ◌+◌, ◌<◌, ◌≤◌, ◌⊎◌, Bool, true, false, cond, inl, inr, List, [], ◌∷◌, length, get_or, map, refl, sym, ap, subst, ◌∙◌, arith}
use Rattle.std.specs.List.{AllPairs, Contains, filter, sum_by}
use Rattle.std.specs.List.Sorted.{IsSorted, IsPermutation}
use Rattle.std.specs.Ordering.{is_eq, is_lt, ordering_reverse}
use Rattle.std.specs.declared.cmp.Ordering.{Ordering}
use Rattle.std.specs.declared.cmp.Ordering.TheVariants.{Less, Equal, Greater}
use Rattle.std.proofs.lemmas.Bool.{cases_Bool}
use Rattle.std.proofs.lemmas.Cmp.{tied_itself}
use Rattle.std.proofs.lemmas.List.Sorted.{sorted_far, ranks_by, IsPermutation-sym, Contains-permutation, sum_by-IsPermutation}
use Rattle.std.proofs.lemmas.List.Sums.{sum_by-cons, get_or-le-sum_by}
use Rattle.std.proofs.lemmas.Map.Keys.{Less-from_sorted, sorted_from_all_adjacent}
use Rattle.std.proofs.lemmas.Option.{slice_get-get_or}
use Rattle.loom_base.proofs.Contained.{Contains-here, Contains-cons, Contains-cases, Contains-from_map, Contains-from_filter}
use Rattle.loom_types.specs.declared.plan.Plan.{Plan}
use Rattle.loom_types.specs.declared.wire.Wire.{Wire}
use Rattle.loom_types.specs.LayoutWires.{bare}
use Rattle.loom_types.specs.WireOrder.{wire_cmp, IsWireBefore}
use Rattle.loom_audit.specs.LayoutRule.{DoWiresRise}
use Rattle.loom_audit.specs.WireTotals.{wire_cmp_total}

-- each wire stands before all later ones
abbrev pub Rise : List Wire → Type 0
Rise [] = Unit {0}
Rise (w ∷ ws) = ((v : Wire) → Contains ws v → IsWireBefore w v) × Rise ws

pub rise-from_pairs : (ws : List Wire) → AllPairs IsWireBefore ws → Rise ws
rise-from_pairs [] h = tt
rise-from_pairs (w ∷ ws) h = (
  λ v listed. subst (IsWireBefore w) listed.2 (h 0 (suc listed.0) v (omega arith) (omega (arith, listed.1))),
  rise-from_pairs ws (λ i j d before within. h (suc i) (suc j) d (omega arith) (omega arith)),
)

not_itself : (w : Wire) → IsWireBefore w w → ⊥
not_itself w before = let tied = tied_itself wire_cmp_total w in absurd (cc)

not_both : (w v : Wire) → IsWireBefore w v → IsWireBefore v w → ⊥
not_both w v one other = not_itself w (wire_cmp_total.trans w v w one other)

-- the first wires are equal
same_first : (x y : Wire) (xs ys : List Wire) → Rise (x ∷ xs) → Rise (y ∷ ys) → Contains (y ∷ ys) x → Contains (x ∷ xs) y → x ≡ y
same_first x y xs ys rises others to from = elim (Contains-cases x y ys to) [
  | inl same ↦ sym same
  | inr later ↦ elim (Contains-cases y x xs from) [
    | inl same ↦ same
    | inr behind ↦ absurd (not_both x y (rises.0 y behind) (others.0 x later))
  ]
]

-- what stands behind the first wire of a list stands behind that of the other
behind_first : (x y : Wire) (xs ys : List Wire) → x ≡ y → Rise (x ∷ xs) → ((w : Wire) → Contains (x ∷ xs) w → Contains (y ∷ ys) w) → (w : Wire) → Contains xs w → Contains ys w
behind_first x y xs ys same rises to w listed = elim (Contains-cases w y ys (to w (Contains-cons w x xs listed))) [
  | inl first ↦ absurd (not_itself w (subst (λ v. IsWireBefore v w) (same ∙ first) (rises.0 w listed)))
  | inr later ↦ later
]

none_listed : (w : Wire) → Contains [] w → ⊥
none_listed w listed = absurd (omega (arith, listed.1))

pub same_members : (xs ys : List Wire) → Rise xs → Rise ys → ((w : Wire) → Contains xs w → Contains ys w) → ((w : Wire) → Contains ys w → Contains xs w) → xs ≡ ys
same_members [] [] rises others to from = refl
same_members [] (y ∷ ys) rises others to from = absurd (none_listed y (from y (Contains-here y ys)))
same_members (x ∷ xs) [] rises others to from = absurd (none_listed x (to x (Contains-here x xs)))
same_members (x ∷ xs) (y ∷ ys) rises others to from =
    let same = same_first x y xs ys rises others (to x (Contains-here x xs)) (from y (Contains-here y ys)) in
    let rest = same_members xs ys rises.1 others.1 (behind_first x y xs ys same rises to) (behind_first y x ys xs (sym same) others from) in
    λ i. same i ∷ rest i

-- ---- parts and copies of lists in order

pub rise-filter : (p : Wire → Bool) (ws : List Wire) → Rise ws → Rise (filter p ws)
rise-filter p [] h = tt
rise-filter p (w ∷ ws) h = kept (p w) (rise-filter p ws h.1)
  where
    kept : (b : Bool) → Rise (filter p ws) → Rise (cond b (w ∷ filter p ws) (filter p ws))
    kept true rest = (λ v listed. h.0 v (Contains-from_filter p ws v listed).0, rest)
    kept false rest = rest

pub rise-bare : (ws : List Wire) → Rise ws → Rise (map bare ws)
rise-bare [] h = tt
rise-bare (w ∷ ws) h = (
  λ v listed. let from = Contains-from_map bare ws v listed in subst (IsWireBefore (bare w)) from.2 (h.0 from.0 from.1),
  rise-bare ws h.1,
)

-- two tests that agree on the members pick the same
pub filter-same : (p q : Wire → Bool) (ws : List Wire) → ((w : Wire) → Contains ws w → p w ≡ q w) → filter p ws ≡ filter q ws
filter-same p q [] same = refl
filter-same p q (w ∷ ws) same =
    λ i. cond (same w (Contains-here w ws) i) (w ∷ filter-same p q ws (λ v at. same v (Contains-cons v w ws at)) i)
    (filter-same p q ws (λ v at. same v (Contains-cons v w ws at)) i)

-- ---- a sorted list with the wires of one in order

abbrev tied : Ordering → ℕ
tied o = cond (is_eq o) 1 0

abbrev tie : Wire → Wire → ℕ
tie w v = tied (wire_cmp w v)

tied-is : (o : Ordering) → is_eq o ≡ true → o ≡ Equal
tied-is Less e = absurd (cc)
tied-is Equal e = refl
tied-is Greater e = absurd (cc)

-- none of the wires behind is tied to one before them
none_tied : (w : Wire) (ws : List Wire) → ((v : Wire) → Contains ws v → IsWireBefore w v) → sum_by (λ v. tie w v) ws ≡ 0
none_tied w [] h = refl
none_tied w (v ∷ vs) h =
    let here : tie w v ≡ 0 = ap (λ (o : Ordering). tied o) (h v (Contains-here v vs)) in
    let rest = none_tied w vs (λ u at. h u (Contains-cons u v vs at)) in
    sum_by-cons (λ (u : Wire). tie w u) v vs ∙ omega arith

-- a wire is tied to one of a list in order at most
one_tied : (w : Wire) (ws : List Wire) → Rise ws → sum_by (λ v. tie w v) ws ≤ 1
one_tied w [] h = omega arith
one_tied w (v ∷ vs) h = elim (cases_Bool (is_eq (wire_cmp w v))) [
  | inl equals ↦
      let equal : wire_cmp w v ≡ Equal = tied-is (wire_cmp w v) equals in
      let rest = none_tied w vs (λ u at. wire_cmp_total.congr w v u equal ∙ h.0 u at) in
      let here : tie w v ≡ 1 = ap (λ (b : Bool). cond {A = ℕ} b 1 0) equals in
      omega (arith, sum_by-cons (λ (u : Wire). tie w u) v vs, rest, here)
  | inr differs ↦
      let here : tie w v ≡ 0 = ap (λ (b : Bool). cond {A = ℕ} b 1 0) differs in
      omega (arith, sum_by-cons (λ (u : Wire). tie w u) v vs, one_tied w vs h.1, here)
]

-- two places count twice
two_places : {X : Type 0} (f : X → ℕ) (xs : List X) (i j : ℕ) (d : X) → i < j → j < length xs → f (get_or xs i d) ≡ 1 → f (get_or xs j d) ≡ 1 → 2 ≤ sum_by f xs
two_places f [] i j d lt within one other = absurd (omega arith)
two_places f (x ∷ xs) zero zero d lt within one other = absurd (omega arith)
two_places f (x ∷ xs) zero (suc j) d lt within one other =
    omega (arith, sum_by-cons f x xs, get_or-le-sum_by f xs j d (omega arith))
two_places f (x ∷ xs) (suc i) zero d lt within one other = absurd (omega arith)
two_places f (x ∷ xs) (suc i) (suc j) d lt within one other =
    omega (arith, sum_by-cons f x xs, two_places f xs i j d (omega arith) (omega arith) one other)

not_less : (o : Ordering) → is_lt o ≡ false → (o ≡ Equal) ⊎ (o ≡ Greater)
not_less Less e = absurd (cc)
not_less Equal e = inl refl
not_less Greater e = inr refl

pub sorted-is : (ys xs : List Wire) → IsSorted wire_cmp ys → IsPermutation ys xs → Rise xs → ys ≡ xs
sorted-is ys xs sorted moved rises =
    same_members ys xs (rise-from_pairs ys pairs) rises (λ w at. Contains-permutation ys xs w moved at)
    (λ w at. Contains-permutation xs ys w (IsPermutation-sym ys xs moved) at)
  where
    pairs : AllPairs IsWireBefore ys
    pairs i j d lt within =
        let one : Wire = get_or ys i d in
        let other : Wire = get_or ys j d in
        let far : is_lt (wire_cmp other one) ≡ false = sorted_far (λ x y. is_lt (wire_cmp x y)) (ranks_by wire_cmp_total (λ (w : Wire). w)) ys sorted i j d (omega arith) within in
        elim (not_less (wire_cmp other one) far) [
          | inr greater ↦ wire_cmp_total.antisymm one other ∙ ap ordering_reverse greater
          | inl equal ↦
              let count : sum_by (λ v. tie one v) xs ≡ sum_by (λ v. tie one v) ys =
              sum_by-IsPermutation (λ v. tie one v) ys xs moved in
              let first : tie one one ≡ 1 = ap (λ (o : Ordering). tied o) (tied_itself wire_cmp_total one) in
              let second : tie one other ≡ 1 = ap (λ (o : Ordering). tied o) (wire_cmp_total.antisymm one other ∙ ap ordering_reverse equal) in
              let two = two_places (λ v. tie one v) ys i j d lt within first second in
              absurd (omega (arith, one_tied one xs rises, count, two))
        ]

-- the wires of a plan that rise
pub rise-of_plan : (plan : Plan) → DoWiresRise plan → Rise plan.wires
rise-of_plan plan rises =
    rise-from_pairs plan.wires
    (λ i j d lt within.
    Less-from_sorted wire_cmp plan.wires i j d
    (sorted_from_all_adjacent wire_cmp_total plan.wires d
    (λ k h.
    rises (k + 1) (get_or plan.wires (k + 1) d) (slice_get-get_or plan.wires (k + 1) d h) k (get_or plan.wires k d) refl
    (slice_get-get_or plan.wires k d (omega arith))))
    lt within)
