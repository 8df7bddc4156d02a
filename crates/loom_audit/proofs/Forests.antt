-- Parents of points: how they stay a forest, and how classes are merged.
use Rattle.std.proofs.Common.{ℕ, zero, suc, List, [], ◌∷◌, ◌++◌, length, get_or, set, take, drop, ◌≡◌, ◌+◌, ◌-◌, ◌<◌, ◌≤◌, ◌⊎◌, inl, inr, ◌==◌, min, max, sym, ap, ◌∙◌, subst, arith, length-set}
use Rattle.std.specs.List.{Contains}
use Rattle.std.proofs.lemmas.Bool.{cases_eq, cases_lt, cond-true, cond-false, eq-eqb, ne_eqb}
use Rattle.std.proofs.lemmas.List.{get_or-set_same, get_or-set_other, get_or_default, drop_more, take_at}
use Rattle.loom_audit.specs.Classes.{merged, JoinsApart, AreParents, IsForestOf}

-- ---- merged classes

pub merged-greater : (a b x : ℕ) → x ≡ max a b → merged a b x ≡ min a b
merged-greater a b x e = cond-true (x == max a b) (min a b) x (eq-eqb x (max a b) e)

pub merged-other : (a b x : ℕ) → (x ≡ max a b → ⊥) → merged a b x ≡ x
merged-other a b x other = cond-false (x == max a b) (min a b) x (ne_eqb x (max a b) other)

-- the two are one class
pub merged-first : (a b : ℕ) → merged a b a ≡ min a b
merged-first a b = elim (cases_eq a (max a b)) [
  | inl e ↦ merged-greater a b a e
  | inr other ↦ omega (arith, other, merged-other a b a other)
]

pub merged-second : (a b : ℕ) → merged a b b ≡ min a b
merged-second a b = elim (cases_eq b (max a b)) [
  | inl e ↦ merged-greater a b b e
  | inr other ↦ omega (arith, other, merged-other a b b other)
]

-- what is one class then was one, or was the two
pub merged-cases : (a b x y : ℕ) → merged a b x ≡ merged a b y → (x ≡ y) ⊎ (((x ≡ a) × (b ≡ y)) ⊎ ((x ≡ b) × (a ≡ y)))
merged-cases a b x y e = elim (cases_eq x (max a b)) [
  | inl x_up ↦ elim (cases_eq y (max a b)) [
    | inl y_up ↦ inl (x_up ∙ sym y_up)
    | inr y_low ↦
        let down : min a b ≡ y = sym (merged-greater a b x x_up) ∙ (e ∙ merged-other a b y y_low) in
        elim (cases_lt a b) [
          | inl less ↦ inr (inr (omega (arith, less, down, x_up), omega (arith, less, down, x_up)))
          | inr more ↦ inr (inl (omega (arith, more, down, x_up), omega (arith, more, down, x_up)))
        ]
  ]
  | inr x_low ↦ elim (cases_eq y (max a b)) [
    | inl y_up ↦
        let down : x ≡ min a b = sym (merged-other a b x x_low) ∙ (e ∙ merged-greater a b y y_up) in
        elim (cases_lt a b) [
          | inl less ↦ inr (inl (omega (arith, less, down, y_up), omega (arith, less, down, y_up)))
          | inr more ↦ inr (inr (omega (arith, more, down, y_up), omega (arith, more, down, y_up)))
        ]
    | inr y_low ↦ inl (sym (merged-other a b x x_low) ∙ (e ∙ merged-other a b y y_low))
  ]
]

-- ---- a parent that is changed

-- the parents stay before their points
pub lowered_parents : (parents : List ℕ) (at up : ℕ) → at < length parents → up ≤ at → AreParents parents → AreParents (set parents at up)
lowered_parents parents at up within lower below x = elim (cases_eq x at) [
  | inr other ↦ omega (arith, get_or-set_other parents at x up 0 other, below x)
  | inl e ↦
      let is : get_or (set parents at up) x 0 ≡ up = ap (λ (k : ℕ). get_or (set parents at up) k 0) e ∙ get_or-set_same parents at up 0 within in
      omega (arith, is, lower, e)
]

-- a point may be hung on another of its class, unless it is a root
pub rehung_forest : (classes : ℕ → ℕ) (parents : List ℕ) (at up : ℕ) → at < length parents → classes up ≡ classes at → up < at
    → IsForestOf classes parents → IsForestOf classes (set parents at up)
rehung_forest classes parents at up within alike lower forest =
    let after : List ℕ = set parents at up in
    let here : get_or after at 0 ≡ up = get_or-set_same parents at up 0 within in
    let count : length after ≡ length parents = length-set parents at up in
    record {
      up = λ x below. elim (cases_eq x at) [
        | inl e ↦ ap (λ (k : ℕ). classes (get_or after k 0)) e ∙ (ap classes here ∙ (alike ∙ ap classes (sym e)))
        | inr other ↦ ap classes (get_or-set_other parents at x up 0 other) ∙ forest.up x (omega (arith, below, count))
      ];
      root = λ x below own. elim (cases_eq x at) [
        | inl e ↦
            let same : get_or after x 0 ≡ up = ap (λ (k : ℕ). get_or after k 0) e ∙ here in
            absurd (omega (arith, same, own, lower, e))
        | inr other ↦ forest.root x (omega (arith, below, count)) (sym (get_or-set_other parents at x up 0 other) ∙ own)
      ];
    }

-- one step up: the point's parent's parent is of its class
pub two_up : (classes : ℕ → ℕ) (parents : List ℕ) (at : ℕ) → at < length parents → AreParents parents → IsForestOf classes parents
    → classes (get_or parents (get_or parents at 0) 0) ≡ classes at
two_up classes parents at within below forest =
    forest.up (get_or parents at 0) (omega (arith, within, below at)) ∙ forest.up at within

pub two_below : (parents : List ℕ) (at : ℕ) → AreParents parents → (get_or parents at 0 ≡ at → ⊥)
    → get_or parents (get_or parents at 0) 0 < at
two_below parents at below other = omega (arith, below at, below (get_or parents at 0), other)

-- ---- two roots that become one

pub joined_forest : (classes : ℕ → ℕ) (parents : List ℕ) (a b : ℕ) → a < length parents → b < length parents → (a ≡ b → ⊥)
    → classes a ≡ a → classes b ≡ b → IsForestOf classes parents
    → IsForestOf (λ x. merged a b (classes x)) (set parents (max a b) (min a b))
joined_forest classes parents a b a_in b_in apart a_root b_root forest =
    let top : ℕ = max a b in
    let low : ℕ = min a b in
    let after : List ℕ = set parents top low in
    let within : top < length parents = omega (arith, a_in, b_in) in
    let here : get_or after top 0 ≡ low = get_or-set_same parents top low 0 within in
    let count : length after ≡ length parents = length-set parents top low in
    let top_root : classes top ≡ top = elim (cases_lt a b) [
      | inl less ↦
          let is : top ≡ b = omega (arith, less) in
          subst (λ (k : ℕ). classes k ≡ k) (sym is) b_root
      | inr more ↦
          let is : top ≡ a = omega (arith, more) in
          subst (λ (k : ℕ). classes k ≡ k) (sym is) a_root
    ] in
    let low_root : classes low ≡ low = elim (cases_lt a b) [
      | inl less ↦
          let is : low ≡ a = omega (arith, less) in
          subst (λ (k : ℕ). classes k ≡ k) (sym is) a_root
      | inr more ↦
          let is : low ≡ b = omega (arith, more) in
          subst (λ (k : ℕ). classes k ≡ k) (sym is) b_root
    ] in
    let less : low < top = omega (arith, apart) in
    record {
      up = λ x below. elim (cases_eq x top) [
        | inl e ↦
            let left : merged a b (classes (get_or after x 0)) ≡ low =
            ap (λ (k : ℕ). merged a b (classes (get_or after k 0))) e ∙ (ap (λ (k : ℕ). merged a b (classes k)) here
            ∙ (ap (merged a b) low_root ∙ merged-other a b low (λ same. omega (arith, same, less)))) in
            let right : merged a b (classes x) ≡ low = ap (λ (k : ℕ). merged a b (classes k)) e ∙ merged-greater a b (classes top) top_root in
            left ∙ sym right
        | inr other ↦
            ap (λ (k : ℕ). merged a b (classes k)) (get_or-set_other parents top x low 0 other)
            ∙ ap (merged a b) (forest.up x (omega (arith, below, count)))
      ];
      root = λ x below own. elim (cases_eq x top) [
        | inl e ↦
            let same : get_or after x 0 ≡ low = ap (λ (k : ℕ). get_or after k 0) e ∙ here in
            absurd (omega (arith, same, own, less, e))
        | inr other ↦
            let is : classes x ≡ x = forest.root x (omega (arith, below, count)) (sym (get_or-set_other parents top x low 0 other) ∙ own) in
            ap (merged a b) is ∙ merged-other a b x other
      ];
    }

-- ---- links laid one by one

-- what a slice of a list gives back to it
pub written_back : (xs ys : List ℕ) (n : ℕ) → length xs ≡ n → take n (xs ++ drop (length xs) ys) ≡ xs
written_back xs ys n e = take_at xs (drop (length xs) ys) n e

pub step_down : (links : List (ℕ × ℕ)) (k : ℕ) → 0 < k → k ≤ length links → drop (k - 1) links ≡ get_or links (k - 1) (0, 0) ∷ drop k links
step_down links k some within =
    let up : k - 1 + 1 ≡ k = omega (arith, some) in
    drop_more links (k - 1) (0, 0) (omega (arith, some, within)) ∙ ap (λ (m : ℕ). get_or links (k - 1) (0, 0) ∷ drop m links) up

pub apart_later : (k : ℕ) (links : List (ℕ × ℕ)) → JoinsApart links → JoinsApart (drop k links)
apart_later zero links apart = apart
apart_later (suc k) [] apart = tt
apart_later (suc k) (link ∷ links) apart = apart_later k links apart.1

-- links that start in one class, if each before the n-th does and there are no more
pub in_class : (classes : ℕ → ℕ) (hub : ℕ) (links : List (ℕ × ℕ)) (n : ℕ) → length links ≤ n
    → ((k : ℕ) → k < n → classes (get_or links k (0, 0)).0 ≡ hub) → (l : ℕ × ℕ) → Contains links l → classes l.0 ≡ hub
in_class classes hub links n past each l (k, within, at) =
    ap (λ (p : ℕ × ℕ). classes p.0) (sym (get_or_default links k (0, 0) l within ∙ at)) ∙ each k (omega (arith, past, within))
