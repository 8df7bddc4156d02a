-- Sums over the points of wires that grow: each wire adds its new point once.
use Rattle.std.proofs.Common.{ℕ, List, [], ◌∷◌, Bool, true, false, ◌||◌, ◌≡◌, ◌+◌, ◌<◌, ◌⊎◌, inl, inr, refl, sym, ap, ◌∙◌, subst, sum_by, arith}
use Rattle.std.specs.List.{flat_map, list_any}
use Rattle.std.proofs.lemmas.Bool.{or_right, or_from, false_from_ne_true, cond-true, cond-false}
use Rattle.std.proofs.lemmas.List.Sums.{sum_by-cons}
use Rattle.loom_types.specs.declared.wire.End.{End}
use Rattle.loom_types.specs.WireCost.{Point, point_of, is_same_point, distinct_points}
use Rattle.loom_types.proofs.Tallies.{one_if}
use Rattle.loom_types.proofs.EndTests.{same_point-true, same_point-refl, at_point}
use Rattle.loom_types.proofs.Growth.{met, met-cons, met-le, Joins, IsGrown}

-- the points at which wires end, one for each end
abbrev pub pair_points : List (End × End) → List Point
pair_points ws = flat_map (λ w. point_of w.0 ∷ point_of w.1 ∷ []) ws

abbrev pub point_sum : (Point → ℕ) → List (End × End) → ℕ
point_sum g ws = sum_by g (distinct_points (pair_points ws))

-- a test that passes somewhere counts, and one that passes nowhere doesn't
abbrev Counts : Bool → ℕ → Type 0
Counts any count = ((any ≡ true) × (0 < count)) ⊎ ((any ≡ false) × (count ≡ 0))

counts_more : (a b rest : Bool) (count : ℕ) → Counts rest count → Counts (a || (b || rest)) (one_if a + one_if b + count)
counts_more true b rest count c = inl (refl, omega arith)
counts_more false true rest count c = inl (refl, omega arith)
counts_more false false rest count (inl some) = inl (some.0, omega (arith, some.1))
counts_more false false rest count (inr none) = inr (none.0, omega (arith, none.1))

any_counts : (P : Point) (ws : List (End × End)) → Counts (list_any (is_same_point P) (pair_points ws)) (met (at_point P) ws)
any_counts P [] = inr (refl, refl)
any_counts P (w ∷ ws) =
    let more = counts_more (is_same_point P (point_of w.0)) (is_same_point P (point_of w.1))
    (list_any (is_same_point P) (pair_points ws)) (met (at_point P) ws) (any_counts P ws) in
    subst (Counts (list_any (is_same_point P) (pair_points (w ∷ ws)))) (sym (met-cons (at_point P) w ws)) more

any-true : (P : Point) (ws : List (End × End)) → 0 < met (at_point P) ws → list_any (is_same_point P) (pair_points ws) ≡ true
any-true P ws some = elim (any_counts P ws) [ inl is ↦ is.0 | inr none ↦ absurd (omega (arith, some, none.1)) ]

any-false : (P : Point) (ws : List (End × End)) → met (at_point P) ws ≡ 0 → list_any (is_same_point P) (pair_points ws) ≡ false
any-false P ws none = elim (any_counts P ws) [ inl is ↦ absurd (omega (arith, none, is.1)) | inr other ↦ other.0 ]

-- a point that is met is another than one that is new
apart_from_new : (ws : List (End × End)) (p q : End) → Joins ws p q → is_same_point (point_of q) (point_of p) ≡ false
apart_from_new ws p q joins =
    false_from_ne_true (is_same_point (point_of q) (point_of p)) (λ same.
    let e : point_of q ≡ point_of p = same_point-true (point_of q) (point_of p) same in
    let none : met (at_point (point_of p)) ws ≡ 0 = subst (λ P. met (at_point P) ws ≡ 0) e joins.fresh in
    omega (arith, none, joins.old, met-le p ws))

module _ (g : Point → ℕ) where
  distinct_skips : (P : Point) (ps : List Point) → list_any (is_same_point P) ps ≡ true
      → sum_by g (distinct_points (P ∷ ps)) ≡ sum_by g (distinct_points ps)
  distinct_skips P ps e =
      ap (sum_by g) (cond-true (list_any (is_same_point P) ps) (distinct_points ps) (P ∷ distinct_points ps) e)

  distinct_adds : (P : Point) (ps : List Point) → list_any (is_same_point P) ps ≡ false
      → sum_by g (distinct_points (P ∷ ps)) ≡ g P + sum_by g (distinct_points ps)
  distinct_adds P ps e =
      ap (sum_by g) (cond-false (list_any (is_same_point P) ps) (distinct_points ps) (P ∷ distinct_points ps) e)
      ∙ sum_by-cons g P (distinct_points ps)

  pub sum-forth : (w : End × End) (ws : List (End × End)) → Joins ws w.0 w.1
      → point_sum g (w ∷ ws) ≡ g (point_of w.1) + point_sum g ws
  sum-forth w ws joins =
      let some = any-true (point_of w.0) ws (omega (arith, joins.old, met-le w.0 ws)) in
      let both = or_right (is_same_point (point_of w.0) (point_of w.1)) (list_any (is_same_point (point_of w.0)) (pair_points ws)) some in
      distinct_skips (point_of w.0) (point_of w.1 ∷ pair_points ws) both
      ∙ distinct_adds (point_of w.1) (pair_points ws) (any-false (point_of w.1) ws joins.fresh)

  pub sum-back : (w : End × End) (ws : List (End × End)) → Joins ws w.1 w.0
      → point_sum g (w ∷ ws) ≡ g (point_of w.0) + point_sum g ws
  sum-back w ws joins =
      let none = or_from (is_same_point (point_of w.0) (point_of w.1)) (list_any (is_same_point (point_of w.0)) (pair_points ws))
      (apart_from_new ws w.1 w.0 joins) (any-false (point_of w.0) ws joins.fresh) in
      let some = any-true (point_of w.1) ws (omega (arith, joins.old, met-le w.1 ws)) in
      distinct_adds (point_of w.0) (point_of w.1 ∷ pair_points ws) none
      ∙ ap (λ n. g (point_of w.0) + n) (distinct_skips (point_of w.1) (pair_points ws) some)

  pub sum-seed : (w : End × End) → is_same_point (point_of w.0) (point_of w.1) ≡ false
      → point_sum g (w ∷ []) ≡ g (point_of w.0) + g (point_of w.1)
  sum-seed w apart =
      let none = or_from (is_same_point (point_of w.0) (point_of w.1)) false apart refl in
      let first = distinct_adds (point_of w.0) (point_of w.1 ∷ []) none in
      let second : sum_by g (distinct_points (point_of w.1 ∷ [])) ≡ g (point_of w.1) + 0 = distinct_adds (point_of w.1) [] refl in
      first ∙ omega (arith, second)

-- the wires grow, and g comes to a total over their points
pub record GrowsTo (g : Point → ℕ) (ws : List (End × End)) (total : ℕ) : Type 0 where
  pub grown : IsGrown ws
  pub sum : point_sum g ws ≡ total

-- the two ends of a wire, whichever way round it is listed
abbrev pub AreEnds : End × End → End → End → Type 0
AreEnds w p q = ((w.0 ≡ p) × (w.1 ≡ q)) ⊎ ((w.0 ≡ q) × (w.1 ≡ p))

pub grows_on : (g : Point → ℕ) (w : End × End) (ws : List (End × End)) (p q : End) (total : ℕ) → AreEnds w p q → GrowsTo g ws total
    → Joins ws p q → GrowsTo g (w ∷ ws) (g (point_of q) + total)
grows_on g w ws p q total (inl (e, f)) before joins =
    let here : Joins ws w.0 w.1 = subst (λ x. Joins ws x w.1) (sym e) (subst (λ x. Joins ws p x) (sym f) joins) in
    let new : g (point_of w.1) ≡ g (point_of q) = ap (λ x. g (point_of x)) f in
    record { grown = (inl here, before.grown); sum = omega (arith, sum-forth g w ws here, new, before.sum) }
grows_on g w ws p q total (inr (e, f)) before joins =
    let here : Joins ws w.1 w.0 = subst (λ x. Joins ws x w.0) (sym f) (subst (λ x. Joins ws p x) (sym e) joins) in
    let new : g (point_of w.0) ≡ g (point_of q) = ap (λ x. g (point_of x)) e in
    record { grown = (inr (inl here), before.grown); sum = omega (arith, sum-back g w ws here, new, before.sum) }

pub grows_from : (g : Point → ℕ) (w : End × End) (p q : End) → AreEnds w p q → (is_same_point (point_of p) (point_of q) ≡ true → ⊥)
    → GrowsTo g (w ∷ []) (g (point_of p) + g (point_of q))
grows_from g w p q ends apart =
    let different : is_same_point (point_of w.0) (point_of w.1) ≡ false =
    false_from_ne_true (is_same_point (point_of w.0) (point_of w.1)) (λ same. elim ends [
      | inl (e, f) ↦ apart (subst (λ x. is_same_point (point_of x) (point_of q) ≡ true) e
          (subst (λ x. is_same_point (point_of w.0) (point_of x) ≡ true) f same))
      | inr (e, f) ↦
          let turned : point_of q ≡ point_of p =
          sym (ap point_of e) ∙ (same_point-true (point_of w.0) (point_of w.1) same ∙ ap point_of f) in
          apart (ap (λ P. is_same_point P (point_of q)) (sym turned) ∙ same_point-refl (point_of q))
    ]) in
    let total : g (point_of w.0) + g (point_of w.1) ≡ g (point_of p) + g (point_of q) = elim ends [
      | inl (e, f) ↦ omega (arith, ap (λ x. g (point_of x)) e, ap (λ x. g (point_of x)) f)
      | inr (e, f) ↦ omega (arith, ap (λ x. g (point_of x)) e, ap (λ x. g (point_of x)) f)
    ] in
    record { grown = (inr (inr (refl, different)), tt); sum = sum-seed g w different ∙ total }
