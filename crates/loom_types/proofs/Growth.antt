-- Wires that grow: each joins a point that the later ones of the list have met to a new one, and the last joins two points.
use Rattle.std.proofs.Common.{ℕ, suc, List, [], ◌∷◌, false, ◌≡◌, ◌+◌, ◌<◌, ◌≤◌, ◌⊎◌, inl, inr, refl, sym, ap, ◌∙◌, subst, sum_by, arith}
use Rattle.std.specs.List.{Contains}
use Rattle.std.proofs.lemmas.Bool.{both_ways}
use Rattle.std.proofs.lemmas.List.Sums.{sum_by-cons, get_or-le-sum_by, sum_by-le-sum_by}
use Rattle.loom_types.specs.declared.wire.End.{End}
use Rattle.loom_types.specs.Joined.{Chain, here, next}
use Rattle.loom_types.specs.WireCost.{point_of, is_same_point}
use Rattle.loom_types.specs.WireTree.{joint_of, Edge, forth, back, Reaches, HasNoCycle}
use Rattle.loom_types.proofs.EndTests.{same_point-refl, point_from_joint, at_joint, at_point, at_joint-here, at_joint-cases, at_joint-le}

-- how often the ends of wires come to what a test counts
abbrev pub met : (End → ℕ) → List (End × End) → ℕ
met f ws = sum_by (λ w. f w.0 + f w.1) ws

pub met-cons : (f : End → ℕ) (w : End × End) (ws : List (End × End)) → met f (w ∷ ws) ≡ f w.0 + f w.1 + met f ws
met-cons f w ws = sum_by-cons (λ v. f v.0 + f v.1) w ws

-- a wire from p, whose joint is met, to q, whose point is new
pub record Joins (ws : List (End × End)) (p q : End) : Type 0 where
  pub old : 0 < met (at_joint (joint_of p)) ws
  pub fresh : met (at_point (point_of q)) ws ≡ 0

abbrev pub Extends : List (End × End) → End × End → Type 0
Extends ws w =
    Joins ws w.0 w.1 ⊎ (Joins ws w.1 w.0 ⊎ ((ws ≡ []) × (is_same_point (point_of w.0) (point_of w.1) ≡ false)))

abbrev pub IsGrown : List (End × End) → Type 0
IsGrown [] = Unit {0}
IsGrown (w ∷ ws) = Extends ws w × IsGrown ws

pub met-le : (p : End) (ws : List (End × End)) → met (at_joint (joint_of p)) ws ≤ met (at_point (point_of p)) ws
met-le p ws =
    sum_by-le-sum_by (λ w. at_joint (joint_of p) w.0 + at_joint (joint_of p) w.1)
    (λ w. at_point (point_of p) w.0 + at_point (point_of p) w.1) ws
    (λ w. omega (arith, at_joint-le p w.0, at_joint-le p w.1))

fresh_unmet : (q : End) (ws : List (End × End)) → met (at_point (point_of q)) ws ≡ 0 → 0 < met (at_joint (joint_of q)) ws → ⊥
fresh_unmet q ws none some = omega (arith, none, some, met-le q ws)

has_met : (f : End → ℕ) (w : End × End) (ws : List (End × End)) → Contains ws w → f w.0 + f w.1 ≤ met f ws
has_met f w ws (k, within, e) =
    let part = get_or-le-sum_by (λ v. f v.0 + f v.1) ws k w within in
    subst (λ v. f v.0 + f v.1 ≤ met f ws) e part

edge_met : (ws : List (End × End)) {a b : End} → Edge ws a b → (0 < met (at_joint a) ws) × (0 < met (at_joint b) ws)
edge_met ws (forth w has) = (
  omega (arith, has_met (at_joint (joint_of w.0)) w ws has, at_joint-here w.0),
  omega (arith, has_met (at_joint (joint_of w.1)) w ws has, at_joint-here w.1),
)
edge_met ws (back w has) = (
  omega (arith, has_met (at_joint (joint_of w.1)) w ws has, at_joint-here w.1),
  omega (arith, has_met (at_joint (joint_of w.0)) w ws has, at_joint-here w.0),
)

reaches_met : (ws : List (End × End)) {a b : End} → Chain (Edge ws) a b
    → (a ≡ b) ⊎ ((0 < met (at_joint a) ws) × (0 < met (at_joint b) ws))
reaches_met ws here = inl refl
reaches_met ws (next edge rest) =
    let (first, second) = edge_met ws edge in
    elim (reaches_met ws rest) [
      | inl same ↦ inr (first, subst (λ x. 0 < met (at_joint x) ws) same second)
      | inr both ↦ inr (first, both.1)
    ]

joins_apart : (ws : List (End × End)) (p q : End) → Joins ws p q
    → (joint_of p ≡ joint_of q) ⊎ ((0 < met (at_joint (joint_of p)) ws) × (0 < met (at_joint (joint_of q)) ws)) → ⊥
joins_apart ws p q joins (inl same) = fresh_unmet q ws joins.fresh (subst (λ x. 0 < met (at_joint x) ws) same joins.old)
joins_apart ws p q joins (inr both) = fresh_unmet q ws joins.fresh both.1

turned : {A B : Type 0} (a b : End) → (a ≡ b) ⊎ (A × B) → (b ≡ a) ⊎ (B × A)
turned a b (inl same) = inl (sym same)
turned a b (inr both) = inr (both.1, both.0)

seed_apart : (ws : List (End × End)) (p q : End) → ws ≡ [] → is_same_point (point_of p) (point_of q) ≡ false
    → (joint_of p ≡ joint_of q) ⊎ ((0 < met (at_joint (joint_of p)) ws) × (0 < met (at_joint (joint_of q)) ws)) → ⊥
seed_apart ws p q none apart (inl same) =
    both_ways (is_same_point (point_of p) (point_of q)) apart
    (ap (is_same_point (point_of p)) (sym (point_from_joint p q same)) ∙ same_point-refl (point_of p))
seed_apart ws p q none apart (inr both) =
    let some : 0 < met (at_joint (joint_of p)) [] = subst (λ vs. 0 < met (at_joint (joint_of p)) vs) none both.0 in
    absurd (omega (arith, some))

extends_apart : (ws : List (End × End)) (w : End × End) → Extends ws w
    → (joint_of w.0 ≡ joint_of w.1) ⊎ ((0 < met (at_joint (joint_of w.0)) ws) × (0 < met (at_joint (joint_of w.1)) ws)) → ⊥
extends_apart ws w (inl joins) way = joins_apart ws w.0 w.1 joins way
extends_apart ws w (inr (inl joins)) way = joins_apart ws w.1 w.0 joins (turned (joint_of w.0) (joint_of w.1) way)
extends_apart ws w (inr (inr (none, apart))) way = seed_apart ws w.0 w.1 none apart way

pub grown_no_cycle : (ws : List (End × End)) → IsGrown ws → HasNoCycle ws
grown_no_cycle [] grown = tt
grown_no_cycle (w ∷ ws) grown = (λ way. extends_apart ws w grown.0 (reaches_met ws way), grown_no_cycle ws grown.1)

-- more wires reach as far
edge_more : (w : End × End) (ws : List (End × End)) {a b : End} → Edge ws a b → Edge (w ∷ ws) a b
edge_more w ws (forth v (k, within, e)) = forth v (suc k, omega arith, e)
edge_more w ws (back v (k, within, e)) = back v (suc k, omega arith, e)

reaches_more : (w : End × End) (ws : List (End × End)) {a b : End} → Chain (Edge ws) a b → Chain (Edge (w ∷ ws)) a b
reaches_more w ws here = here
reaches_more w ws (next edge rest) = next (edge_more w ws edge) (reaches_more w ws rest)

chain_append : {A : Type 0} (R : A → A → Type 0) {a b c : A} → Chain R a b → Chain R b c → Chain R a c
chain_append R here other = other
chain_append R (next edge rest) other = next edge (chain_append R rest other)

-- an end of the first wire
abbrev IsFirst : End × End → End → Type 0
IsFirst w x = (x ≡ joint_of w.0) ⊎ (x ≡ joint_of w.1)

from_to : (w : End × End) (ws : List (End × End)) {x y : End} → x ≡ joint_of w.0 → y ≡ joint_of w.1
    → Chain (Edge (w ∷ ws)) x y × Chain (Edge (w ∷ ws)) y x
from_to w ws {x} {y} e f =
    let R = Edge (w ∷ ws) in
    let has : Contains (w ∷ ws) w = (0, omega arith, refl) in
    let to : Chain R (joint_of w.0) (joint_of w.1) = next (forth w has) here in
    let fro : Chain R (joint_of w.1) (joint_of w.0) = next (back w has) here in (
      subst (λ z. Chain R z y) (sym e) (subst (λ z. Chain R (joint_of w.0) z) (sym f) to),
      subst (λ z. Chain R y z) (sym e) (subst (λ z. Chain R z (joint_of w.0)) (sym f) fro),
    )

same_place : {A : Type 0} (R : A → A → Type 0) (x y : A) → x ≡ y → Chain R x y
same_place R x y e = subst (λ z. Chain R x z) e here

first_reaches : (w : End × End) (ws : List (End × End)) (x y : End) → IsFirst w x → IsFirst w y → Chain (Edge (w ∷ ws)) x y
first_reaches w ws x y (inl e) (inl f) = same_place (Edge (w ∷ ws)) x y (e ∙ sym f)
first_reaches w ws x y (inr e) (inr f) = same_place (Edge (w ∷ ws)) x y (e ∙ sym f)
first_reaches w ws x y (inl e) (inr f) = (from_to w ws e f).0
first_reaches w ws x y (inr e) (inl f) = (from_to w ws f e).1

met_cases : (x : End) (w : End × End) (ws : List (End × End)) → 0 < met (at_joint x) (w ∷ ws)
    → IsFirst w x ⊎ (0 < met (at_joint x) ws)
met_cases x w ws some = elim (at_joint-cases x w.0) [
  | inl one ↦ inl (inl one.0)
  | inr no_from ↦ elim (at_joint-cases x w.1) [
    | inl one ↦ inl (inr one.0)
    | inr no_to ↦ inr (omega (arith, some, no_from, no_to, met-cons (at_joint x) w ws))
  ]
]

-- what is met reaches the hub c and is reached from it
abbrev IsHub : List (End × End) → End → Type 0
IsHub ws c = (x : End) → 0 < met (at_joint x) ws → Chain (Edge ws) x c × Chain (Edge ws) c x

hub_more : (w : End × End) (ws : List (End × End)) (c : End) → IsFirst w c → IsHub ws c → IsHub (w ∷ ws) c
hub_more w ws c first hub x some = elim (met_cases x w ws some) [
  | inl end ↦ (first_reaches w ws x c end first, first_reaches w ws c x first end)
  | inr later ↦ (reaches_more w ws (hub x later).0, reaches_more w ws (hub x later).1)
]

hub_both : (ws : List (End × End)) (c : End) → IsHub ws c → (a b : End) → 0 < met (at_joint a) ws → 0 < met (at_joint b) ws
    → Chain (Edge ws) a b
hub_both ws c hub a b from to = chain_append (Edge ws) (hub a from).0 (hub b to).1

pub grown_connected : (ws : List (End × End)) → IsGrown ws → (a b : End) → 0 < met (at_joint a) ws → 0 < met (at_joint b) ws
    → Reaches ws a b
grown_connected [] grown a b from to = absurd (omega (arith, from))
grown_connected (w ∷ ws) grown a b from to =
    let later = grown_connected ws grown.1 in
    elim grown.0 [
      | inl joins ↦
          hub_both (w ∷ ws) (joint_of w.0) (hub_more w ws (joint_of w.0) (inl refl)
          (λ x some. (later x (joint_of w.0) some joins.old, later (joint_of w.0) x joins.old some))) a b from to
      | inr (inl joins) ↦
          hub_both (w ∷ ws) (joint_of w.1) (hub_more w ws (joint_of w.1) (inr refl)
          (λ x some. (later x (joint_of w.1) some joins.old, later (joint_of w.1) x joins.old some))) a b from to
      | inr (inr seed) ↦
          hub_both (w ∷ ws) (joint_of w.0) (hub_more w ws (joint_of w.0) (inl refl)
          (λ x some.
          let none : 0 < met (at_joint x) [] = subst (λ vs. 0 < met (at_joint x) vs) seed.0 some in
          absurd (omega (arith, none)))) a b from to
    ]
