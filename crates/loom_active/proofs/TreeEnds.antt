-- The ends of a tree's wires, and the points at which they lie.
use Rattle.std.proofs.Common.{◌≡◌, ℕ, ◌<◌, ◌⊎◌, inl, inr, Bool, true, cond, ◌&&◌, ◌==◌, List, [], ◌∷◌, refl, sym, ap, ap₂, subst, ◌∙◌, arith, Contains, count_by}
use Rattle.std.specs.List.{flat_map}
use Rattle.std.proofs.lemmas.Bool.{cases_Bool, cases_eq, cond-true, cond-false, eq-eqb, ne_eqb, eqb-true, and_parts, and_from, false≢true}
use Rattle.std.proofs.lemmas.List.Sums.{sum_by-cons}
use Rattle.loom_base.proofs.Contained.{Contains-here, Contains-cons, Contains-cases}
use Rattle.loom_types.specs.declared.wire.End.{End}
use Rattle.loom_types.specs.declared.wire.End.TheVariants.{Cavity, Splice, Pin}
use Rattle.loom_types.specs.WireTree.{is_same_end, HasEnd, joint_of}

-- ---- one end or another

pub same_end : (e f : End) → is_same_end e f ≡ true → e ≡ f
same_end (Cavity c) (Cavity d) h = ap (λ (k : ℕ). Cavity (record { 0 = k })) (eqb-true c.0 d.0 h)
same_end (Splice v j) (Splice w k) h =
    let both = and_parts (v.0 == w.0) (j == k) h in
    ap₂ (λ (x y : ℕ). Splice (record { 0 = x }) y) (eqb-true v.0 w.0 both.0) (eqb-true j k both.1)
same_end (Pin x p s) (Pin y q t) h =
    let both = and_parts (x.0 == y.0 && p == q) (s == t) h in
    let first = and_parts (x.0 == y.0) (p == q) both.0 in
    ap₂ (λ (k l : ℕ). Pin (record { 0 = k }) l s) (eqb-true x.0 y.0 first.0) (eqb-true p q first.1) ∙ ap (Pin y q) (eqb-true s t both.1)
same_end (Cavity c) (Splice w k) h = absurd (false≢true h)
same_end (Cavity c) (Pin y q t) h = absurd (false≢true h)
same_end (Splice v j) (Cavity d) h = absurd (false≢true h)
same_end (Splice v j) (Pin y q t) h = absurd (false≢true h)
same_end (Pin x p s) (Cavity d) h = absurd (false≢true h)
same_end (Pin x p s) (Splice w k) h = absurd (false≢true h)

pub end_itself : (e : End) → is_same_end e e ≡ true
end_itself (Cavity c) = eq-eqb c.0 c.0 refl
end_itself (Splice v j) = and_from (v.0 == v.0) (j == j) (eq-eqb v.0 v.0 refl) (eq-eqb j j refl)
end_itself (Pin x p s) =
    and_from (x.0 == x.0 && p == p) (s == s) (and_from (x.0 == x.0) (p == p) (eq-eqb x.0 x.0 refl) (eq-eqb p p refl)) (eq-eqb s s refl)

-- ---- counts

-- a count above 0 counts something
counted : {X : Type 0} (p : X → Bool) (xs : List X) → 0 < count_by p xs → (x : X) × Contains xs x × (p x ≡ true)
counted p [] some = absurd (omega arith)
counted p (x ∷ xs) some = elim (cases_Bool (p x)) [
  | inl holding ↦ (x, Contains-here x xs, holding)
  | inr lacking ↦
      let none : ◌≡◌ {A = ℕ} (cond (p x) 1 0) 0 = cond-false (p x) 1 0 lacking in
      let (y, listed, passes) = counted p xs (omega (arith, none, some, sum_by-cons (λ z. cond (p z) 1 0) x xs)) in
      (y, Contains-cons y x xs listed, passes)
]

counts : {X : Type 0} (p : X → Bool) (xs : List X) (x : X) → Contains xs x → p x ≡ true → 0 < count_by p xs
counts p [] x (k, below, at) passes = absurd (omega (arith, below))
counts p (y ∷ xs) x listed passes = elim (Contains-cases x y xs listed) [
  | inl same ↦
      let one : ◌≡◌ {A = ℕ} (cond (p y) 1 0) 1 = cond-true (p y) 1 0 (ap p same ∙ passes) in
      omega (arith, one, sum_by-cons (λ z. cond (p z) 1 0) y xs)
  | inr later ↦ omega (arith, counts p xs x later passes, sum_by-cons (λ z. cond (p z) 1 0) y xs)
]

-- ---- ends of wires

abbrev both_ends : End × End → List End
both_ends w = w.0 ∷ w.1 ∷ []

listed_wire : (ws : List (End × End)) (e : End) → Contains (flat_map both_ends ws) e → (w : End × End) × Contains ws w × ((w.0 ≡ e) ⊎ (w.1 ≡ e))
listed_wire [] e (k, below, at) = absurd (omega (arith, below))
listed_wire (w ∷ ws) e listed = elim (Contains-cases e w.0 (w.1 ∷ flat_map both_ends ws) listed) [
  | inl same ↦ (w, Contains-here w ws, inl same)
  | inr later ↦ elim (Contains-cases e w.1 (flat_map both_ends ws) later) [
    | inl same ↦ (w, Contains-here w ws, inr same)
    | inr rest ↦ let (v, at, is) = listed_wire ws e rest in (v, Contains-cons v w ws at, is)
  ]
]

wire_listed : (ws : List (End × End)) (w : End × End) → Contains ws w → Contains (flat_map both_ends ws) w.0 × Contains (flat_map both_ends ws) w.1
wire_listed [] w (k, below, at) = absurd (omega (arith, below))
wire_listed (v ∷ ws) w listed = elim (Contains-cases w v ws listed) [
  | inl same ↦
      subst (λ (u : End × End). Contains (flat_map both_ends (v ∷ ws)) u.0 × Contains (flat_map both_ends (v ∷ ws)) u.1) same (
        Contains-here v.0 (v.1 ∷ flat_map both_ends ws),
        Contains-cons v.1 v.0 (v.1 ∷ flat_map both_ends ws) (Contains-here v.1 (flat_map both_ends ws)),
      )
  | inr later ↦
      let rest = wire_listed ws w later in (
        Contains-cons w.0 v.0 (v.1 ∷ flat_map both_ends ws) (Contains-cons w.0 v.1 (flat_map both_ends ws) rest.0),
        Contains-cons w.1 v.0 (v.1 ∷ flat_map both_ends ws) (Contains-cons w.1 v.1 (flat_map both_ends ws) rest.1),
      )
]

-- where an end is, some wire ends there
pub end_has_wire : (ws : List (End × End)) (e : End) → HasEnd ws e → (w : End × End) × Contains ws w × ((w.0 ≡ e) ⊎ (w.1 ≡ e))
end_has_wire ws e has =
    let (f, listed, same) = counted (is_same_end e) (flat_map both_ends ws) has in
    listed_wire ws e (subst (λ (x : End). Contains (flat_map both_ends ws) x) (sym (same_end e f same)) listed)

-- and each wire has its two ends
pub wire_has_ends : (ws : List (End × End)) (w : End × End) → Contains ws w → HasEnd ws w.0 × HasEnd ws w.1
wire_has_ends ws w at =
    let listed = wire_listed ws w at in (
      counts (is_same_end w.0) (flat_map both_ends ws) w.0 listed.0 (end_itself w.0),
      counts (is_same_end w.1) (flat_map both_ends ws) w.1 listed.1 (end_itself w.1),
    )

-- ---- points

-- the two ends are side 1 and side 2 of one pin
pub record AreSides (e f : End) : Type 0 where
  pub coupler : ℕ
  pub pin : ℕ
  pub one : e ≡ Pin (record { 0 = coupler }) pin 1
  pub two : f ≡ Pin (record { 0 = coupler }) pin 2

sides : (s t : ℕ) → cond (s == 2) 1 s ≡ cond (t == 2) 1 t → (s ≡ t) ⊎ (((s ≡ 1) × (t ≡ 2)) ⊎ ((t ≡ 1) × (s ≡ 2)))
sides s t h = elim (cases_eq s 2) [
  | inl s_two ↦
      let s_one : ◌≡◌ {A = ℕ} (cond (s == 2) 1 s) 1 = cond-true (s == 2) 1 s (eq-eqb s 2 s_two) in
      elim (cases_eq t 2) [
        | inl t_two ↦ inl (s_two ∙ sym t_two)
        | inr t_other ↦ inr (inr (sym (cond-false (t == 2) 1 t (ne_eqb t 2 t_other)) ∙ sym h ∙ s_one, s_two))
      ]
  | inr s_other ↦
      let s_own : cond (s == 2) 1 s ≡ s = cond-false (s == 2) 1 s (ne_eqb s 2 s_other) in
      elim (cases_eq t 2) [
        | inl t_two ↦ inr (inl (sym s_own ∙ h ∙ cond-true (t == 2) 1 t (eq-eqb t 2 t_two), t_two))
        | inr t_other ↦ inl (sym s_own ∙ h ∙ cond-false (t == 2) 1 t (ne_eqb t 2 t_other))
      ]
]

-- ends at one point are one, or the two sides of one pin
pub same_joint : (e f : End) → joint_of e ≡ joint_of f → (e ≡ f) ⊎ (AreSides e f ⊎ AreSides f e)
same_joint (Cavity c) (Cavity d) h = inl h
same_joint (Splice v j) (Splice w k) h = inl h
same_joint (Pin x p s) (Pin y q t) h =
    let coupler : x ≡ y = cc in
    let pin : p ≡ q = cc in
    let side : cond (s == 2) 1 s ≡ cond (t == 2) 1 t = cc in
    elim (sides s t side) [
      | inl same ↦ inl (cc (coupler, pin, same))
      | inr (inl (one, two)) ↦ inr (inl (record { coupler = x.0; pin = p; one = ap (Pin x p) one; two = cc (coupler, pin, two) }))
      | inr (inr (one, two)) ↦ inr (inr (record { coupler = x.0; pin = p; one = cc (coupler, pin, one); two = ap (Pin x p) two }))
    ]
same_joint (Cavity c) (Splice w k) h = absurd (cc)
same_joint (Cavity c) (Pin y q t) h = absurd (cc)
same_joint (Splice v j) (Cavity d) h = absurd (cc)
same_joint (Splice v j) (Pin y q t) h = absurd (cc)
same_joint (Pin x p s) (Cavity d) h = absurd (cc)
same_joint (Pin x p s) (Splice w k) h = absurd (cc)
