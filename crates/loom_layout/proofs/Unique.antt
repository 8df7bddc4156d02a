-- Least costs leave no choice in a layout.
use Rattle.std.proofs.Common.{ℕ, List, [], ◌∷◌, Option, map, ◌≡◌, ◌-◌, ◌^◌, arith, refl, sym, ◌∙◌, ap, subst, inl, inr}
use Rattle.std.proofs.lemmas.Bool.{cases_lt}
use Rattle.std.proofs.lemmas.Nat.{pow_below}
use Rattle.loom_base.specs.declared.positions.SegmentNo.{SegmentNo}
use Rattle.loom_topology.specs.Topology.{TopologyView, Leads}
use Rattle.loom_topology.specs.WiringTree.{Step, Tree}
use Rattle.loom_topology.specs.Ties.{Splits, StepsTo}
use Rattle.loom_types.specs.declared.layout.Layout.{Layout}
use Rattle.loom_types.specs.SetMask.{rest_of}
use Rattle.loom_types.specs.LayoutTree.{step_of, tree_of}
use Rattle.loom_layout.specs.Layout.{Laying, IsLeastOf, Laid, hang, split, over, hung, stepped, next_point, tree_laid, IsLayout, IsLayoutOf}

same_power : (i j : ℕ) → 2 ^ i ≡ 2 ^ j → i ≡ j
same_power i j e = elim (cases_lt i j) [
  | inl less ↦ absurd (omega (arith, e, pow_below i j less))
  | inr more ↦ elim (cases_lt j i) [
    | inl less ↦ absurd (omega (arith, e, pow_below j i less))
    | inr other ↦ omega (arith, more, other)
  ]
]

-- a segment leads from a node to one node
pub same_end : (topology : TopologyView) (s v u w : ℕ) → Leads topology s v u → Leads topology s v w → u ≡ w
same_end topology s v u w (open_one, one) (open_two, two) = elim one [
  | inl a ↦ elim two [ inl b ↦ sym a.1 ∙ b.1 | inr b ↦ sym a.1 ∙ (b.1 ∙ (sym a.0 ∙ b.0)) ]
  | inr a ↦ elim two [ inl b ↦ sym a.0 ∙ (b.0 ∙ (sym a.1 ∙ b.1)) | inr b ↦ sym a.0 ∙ b.0 ]
]

least_same : (P : ℕ → Type 0) (m n : ℕ) → IsLeastOf P m → IsLeastOf P n → m ≡ n
least_same P m n one two = omega (arith, one.least n two.holds, two.least m one.holds)

module _ (topology : TopologyView) (terminals : List ℕ) (least : ℕ → ℕ → Option ℕ) where
  pub unique : {mask v point : ℕ} {before one two : Laying} → Laid topology terminals least mask v point before one
      → Laid topology terminals least mask v point before two → one ≡ two
  unique {mask} {v} {point} {before} (hang i a) (hang j b) = ap (λ (k : ℕ). hung before k point) (same_power i j (sym a.1 ∙ b.1))
  unique (hang i a) (split part none low first rest) = absurd (none i a)
  unique (hang i a) (over s u none whole low steps rest) = absurd (none i a)
  unique (split part none low first rest) (hang i a) = absurd (none i a)
  unique {mask} {v} {point} {before} {one} {two} (split {between = b} p none low first rest) (split {between = c} q none_q low_q first_q rest_q) =
      let e : q ≡ p = least_same (Splits topology least mask v) q p low_q low in
      let same : b ≡ c = unique first (subst (λ (x : ℕ). Laid topology terminals least x v point before c) e first_q) in
      unique rest (subst (λ (x : Laying). Laid topology terminals least (mask - p) v point x two) (sym same)
      (subst (λ (x : ℕ). Laid topology terminals least (mask - x) v point c two) e rest_q))
  unique (split part none low first rest) (over s u none_s whole low_s steps rest_s) = absurd (whole part low.holds)
  unique (over s u none whole low steps rest) (hang i a) = absurd (none i a)
  unique (over s u none whole low steps rest) (split part none_p low_p first_p rest_p) = absurd (whole part low_p.holds)
  unique {mask} {v} {point} {before} {one} {two} (over s u none whole low steps rest) (over t w none_t whole_t low_t steps_t rest_t) =
      let e : t ≡ s = least_same (λ x. (y : ℕ) × StepsTo topology least mask v x y) t s low_t low in
      let f : w ≡ u = same_end topology s v w u (subst (λ (x : ℕ). Leads topology x v w) e steps_t.0) steps.0 in
      unique rest (subst (λ (x : ℕ). Laid topology terminals least mask x (next_point before) (stepped before point s) two) f
      (subst (λ (x : ℕ). Laid topology terminals least mask w (next_point before) (stepped before point x) two) e rest_t))

  pub one_tree : (mask v : ℕ) (one two : Tree) → IsLayout topology terminals least mask v one → IsLayout topology terminals least mask v two
      → one ≡ two
  one_tree mask v one two (a, laid_a, tree_a) (b, laid_b, tree_b) =
      tree_a ∙ (ap (tree_laid mask) (unique laid_a laid_b) ∙ sym tree_b)

-- a layout by its tree
back : Step → ℕ × SegmentNo
back step = (step.parent, record { 0 = step.segment })

back_all : (steps : List (ℕ × SegmentNo)) → map back (map step_of steps) ≡ steps
unfolding back
back_all [] = refl
back_all (step ∷ steps) = ap (λ rest. step ∷ rest) (back_all steps)

layout_back : Tree → Layout
layout_back tree = record { steps = map back tree.steps; hangs = tree.hangs }

back_of_tree : (layout : Layout) → layout_back (tree_of layout) ≡ layout
unfolding layout_back
back_of_tree layout =
    ap (λ (steps : List (ℕ × SegmentNo)). let l : Layout = record { steps = steps; hangs = layout.hangs } in l) (back_all layout.steps)

pub layout_is_unique : (topology : TopologyView) (terminals : List ℕ) (least : ℕ → ℕ → Option ℕ) (mask : ℕ) (one two : Layout)
    → IsLayoutOf topology terminals least mask one → IsLayoutOf topology terminals least mask two → one ≡ two
layout_is_unique topology terminals least mask one two a b =
    sym (back_of_tree one)
    ∙ (ap layout_back (one_tree topology terminals least (rest_of mask) _ (tree_of one) (tree_of two) a b) ∙ back_of_tree two)
