-- Wires join the points whose links are of one class.
use Rattle.std.proofs.Common.{ℕ, zero, suc, List, [], ◌∷◌, ◌++◌, length, get_or, ◌≡◌, ◌≢◌, ◌<◌, ◌⊎◌, inl, inr, Some, refl, sym, ap, ◌∙◌, subst, arith}
use Rattle.std.specs.List.{AllZip, Contains, slice_get}
use Rattle.std.proofs.lemmas.Option.{same_Some}
use Rattle.loom_base.proofs.Contained.{Contains-here, Contains-cons, Contains-cases}
use Rattle.loom_types.specs.declared.wire.End.{End}
use Rattle.loom_types.specs.Joined.{Chain, here, next}
use Rattle.loom_types.specs.WireTree.{joint_of, Edge, forth, back, Reaches, HasNoCycle, HasEnd}
use Rattle.loom_active.proofs.TreeEnds.{end_has_wire, wire_has_ends}
use Rattle.loom_audit.specs.Classes.{merged, class_of, JoinsApart, AreOneClass}
use Rattle.loom_audit.specs.EndKeys.{key_of, IsLinkOf}
use Rattle.loom_audit.proofs.KeyLemmas.{key_same}
use Rattle.loom_audit.proofs.Forests.{merged-first, merged-second, merged-cases}

-- ---- ways over one wire more

edge_more : (w : End × End) (ws : List (End × End)) {a b : End} → Edge ws a b → Edge (w ∷ ws) a b
edge_more w ws (forth v listed) = forth v (Contains-cons v w ws listed)
edge_more w ws (back v listed) = back v (Contains-cons v w ws listed)

way_more : (w : End × End) (ws : List (End × End)) {a b : End} → Chain (Edge ws) a b → Chain (Edge (w ∷ ws)) a b
way_more w ws here = here
way_more w ws (next edge rest) = next (edge_more w ws edge) (way_more w ws rest)

way_on : {A : Type 0} (R : A → A → Type 0) {a b c : A} → Chain R a b → Chain R b c → Chain R a c
way_on R here other = other
way_on R (next edge rest) other = next edge (way_on R rest other)

-- a way over one wire more goes without it, or from one of its ends or the other once over it
abbrev Split : (w : End × End) (ws : List (End × End)) (p q : End) → Type 0
Split w ws p q =
    Chain (Edge ws) p q
    ⊎ ((Chain (Edge ws) p (joint_of w.0) × Chain (Edge ws) (joint_of w.1) q)
    ⊎ (Chain (Edge ws) p (joint_of w.1) × Chain (Edge ws) (joint_of w.0) q))

split_on : (w : End × End) (ws : List (End × End)) {p r q : End} → Edge ws p r → Split w ws r q → Split w ws p q
split_on w ws edge (inl way) = inl (next edge way)
split_on w ws edge (inr (inl (to, on))) = inr (inl (next edge to, on))
split_on w ws edge (inr (inr (to, on))) = inr (inr (next edge to, on))

over_forth : (w : End × End) (ws : List (End × End)) {q : End} → Split w ws (joint_of w.1) q → Split w ws (joint_of w.0) q
over_forth w ws (inl way) = inr (inl (here, way))
over_forth w ws (inr (inl (to, on))) = inr (inl (here, on))
over_forth w ws (inr (inr (to, on))) = inl on

over_back : (w : End × End) (ws : List (End × End)) {q : End} → Split w ws (joint_of w.0) q → Split w ws (joint_of w.1) q
over_back w ws (inl way) = inr (inr (here, way))
over_back w ws (inr (inl (to, on))) = inl on
over_back w ws (inr (inr (to, on))) = inr (inr (here, on))

split_edge : (w : End × End) (ws : List (End × End)) {p r q : End} → Edge (w ∷ ws) p r → Split w ws r q → Split w ws p q
split_edge w ws {q} (forth v listed) rest = elim (Contains-cases v w ws listed) [
  | inl same ↦ subst (λ (u : End × End). Split w ws (joint_of u.0) q) same (over_forth w ws (subst (λ (u : End × End). Split w ws (joint_of u.1) q) (sym same) rest))
  | inr later ↦ split_on w ws (forth v later) rest
]
split_edge w ws {q} (back v listed) rest = elim (Contains-cases v w ws listed) [
  | inl same ↦ subst (λ (u : End × End). Split w ws (joint_of u.1) q) same (over_back w ws (subst (λ (u : End × End). Split w ws (joint_of u.0) q) (sym same) rest))
  | inr later ↦ split_on w ws (back v later) rest
]

split_way : (w : End × End) (ws : List (End × End)) {p q : End} → Chain (Edge (w ∷ ws)) p q → Split w ws p q
split_way w ws here = inl here
split_way w ws (next edge rest) = split_edge w ws edge (split_way w ws rest)

join_way : (w : End × End) (ws : List (End × End)) {p q : End} → Split w ws p q → Chain (Edge (w ∷ ws)) p q
join_way w ws (inl way) = way_more w ws way
join_way w ws (inr (inl (to, on))) = way_on (Edge (w ∷ ws)) (way_more w ws to) (next (forth w (Contains-here w ws)) (way_more w ws on))
join_way w ws (inr (inr (to, on))) = way_on (Edge (w ∷ ws)) (way_more w ws to) (next (back w (Contains-here w ws)) (way_more w ws on))

no_way : {p q : End} → Chain (Edge []) p q → p ≡ q
no_way here = refl
no_way (next (forth v (k, within, e)) rest) = absurd (omega (arith, within))
no_way (next (back v (k, within, e)) rest) = absurd (omega (arith, within))

-- ---- numbered points

module _ (points : List (ℕ × ℕ × ℕ × ℕ)) (once : (m n : ℕ) (p : ℕ × ℕ × ℕ × ℕ) → slice_get points m ≡ Some p → slice_get points n ≡ Some p → m ≡ n) where
  -- the number of a point
  abbrev Is : ℕ → End → Type 0
  Is m p = slice_get points m ≡ Some (key_of p)

  pub record Agrees (ws : List (End × End)) (links : List (ℕ × ℕ)) (p q : End) (m n : ℕ) : Type 0 where
    pub forth_to : Chain (Edge ws) p q → class_of links m ≡ class_of links n
    pub back_to : class_of links m ≡ class_of links n → Chain (Edge ws) p q

  pub agrees : (ws : List (End × End)) (links : List (ℕ × ℕ)) → AllZip (IsLinkOf points) ws links
      → (p q : End) (m n : ℕ) → slice_get points m ≡ Some (key_of p) → slice_get points n ≡ Some (key_of q) → Agrees ws links p q m n
  agrees [] [] z p q m n at to =
      record {
        forth_to = λ way. once m n (key_of q) (at ∙ ap (λ (x : End). Some (key_of x)) (no_way way)) to;
        back_to = λ same.
            let keys : key_of p ≡ key_of q = same_Some (key_of p) (key_of q) (sym at ∙ (ap (slice_get points) same ∙ to)) in
            subst (λ (x : End). Chain (Edge []) p x) (key_same p q keys) here;
      }
  agrees [] (link ∷ links) z p q m n at to = absurd z
  agrees (w ∷ ws) [] z p q m n at to = absurd z
  agrees (w ∷ ws) (link ∷ links) (ends, z) p q m n at to =
      let a : ℕ = class_of links link.0 in
      let b : ℕ = class_of links link.1 in
      let f = λ (x y : End) (i j : ℕ) (hi : slice_get points i ≡ Some (key_of x)) (hj : slice_get points j ≡ Some (key_of y)). agrees ws links z x y i j hi hj in
      record {
        forth_to = λ way. elim (split_way w ws way) [
          | inl direct ↦ ap (merged a b) ((f p q m n at to).forth_to direct)
          | inr (inl (first, on)) ↦
              ap (merged a b) ((f p (joint_of w.0) m link.0 at ends.0).forth_to first)
              ∙ (merged-first a b ∙ (sym (merged-second a b) ∙ ap (merged a b) ((f (joint_of w.1) q link.1 n ends.1 to).forth_to on)))
          | inr (inr (first, on)) ↦
              ap (merged a b) ((f p (joint_of w.1) m link.1 at ends.1).forth_to first)
              ∙ (merged-second a b ∙ (sym (merged-first a b) ∙ ap (merged a b) ((f (joint_of w.0) q link.0 n ends.0 to).forth_to on)))
        ];
        back_to = λ same. join_way w ws (elim (merged-cases a b (class_of links m) (class_of links n) same) [
          | inl direct ↦ inl ((f p q m n at to).back_to direct)
          | inr (inl (first, on)) ↦
              inr (inl ((f p (joint_of w.0) m link.0 at ends.0).back_to first, (f (joint_of w.1) q link.1 n ends.1 to).back_to on))
          | inr (inr (first, on)) ↦
              inr (inr ((f p (joint_of w.1) m link.1 at ends.1).back_to first, (f (joint_of w.0) q link.0 n ends.0 to).back_to on))
        ]);
      }

  pub no_cycle_from : (ws : List (End × End)) (links : List (ℕ × ℕ)) → AllZip (IsLinkOf points) ws links → JoinsApart links → HasNoCycle ws
  no_cycle_from [] links z apart = tt
  no_cycle_from (w ∷ ws) [] z apart = absurd z
  no_cycle_from (w ∷ ws) (link ∷ links) (ends, z) (new, apart) = (
    λ way. new ((agrees ws links z (joint_of w.0) (joint_of w.1) link.0 link.1 ends.0 ends.1).forth_to way),
    no_cycle_from ws links z apart,
  )

  pub apart_from : (ws : List (End × End)) (links : List (ℕ × ℕ)) → AllZip (IsLinkOf points) ws links → HasNoCycle ws → JoinsApart links
  apart_from [] [] z none = tt
  apart_from [] (link ∷ links) z none = absurd z
  apart_from (w ∷ ws) [] z none = absurd z
  apart_from (w ∷ ws) (link ∷ links) (ends, z) (new, none) = (
    λ same. new ((agrees ws links z (joint_of w.0) (joint_of w.1) link.0 link.1 ends.0 ends.1).back_to same),
    apart_from ws links z none,
  )

  -- each wire has a link, and each link a wire
  link_of : (ws : List (End × End)) (links : List (ℕ × ℕ)) → AllZip (IsLinkOf points) ws links → (w : End × End) → Contains ws w
      → (l : ℕ × ℕ) × Contains links l × IsLinkOf points w l
  link_of [] links z w (k, within, e) = absurd (omega (arith, within))
  link_of (v ∷ ws) [] z w listed = absurd z
  link_of (v ∷ ws) (link ∷ links) (ends, z) w listed = elim (Contains-cases w v ws listed) [
    | inl same ↦ (link, Contains-here link links, subst (λ (u : End × End). IsLinkOf points u link) same ends)
    | inr later ↦ let (l, at, is) = link_of ws links z w later in (l, Contains-cons l link links at, is)
  ]

  wire_of : (ws : List (End × End)) (links : List (ℕ × ℕ)) → AllZip (IsLinkOf points) ws links → (l : ℕ × ℕ) → Contains links l
      → (w : End × End) × Contains ws w × IsLinkOf points w l
  wire_of ws [] z l (k, within, e) = absurd (omega (arith, within))
  wire_of [] (link ∷ links) z l listed = absurd z
  wire_of (v ∷ ws) (link ∷ links) (ends, z) l listed = elim (Contains-cases l link links listed) [
    | inl same ↦ (v, Contains-here v ws, subst (λ (k : ℕ × ℕ). IsLinkOf points v k) same ends)
    | inr later ↦ let (w, at, is) = wire_of ws links z l later in (w, Contains-cons w v ws at, is)
  ]

  module _ (ws : List (End × End)) (links : List (ℕ × ℕ)) (z : AllZip (IsLinkOf points) ws links) where
    -- the point of an end has a number of the class in which some link starts
    started : (e : End) → HasEnd ws e → (m : ℕ) × (l : ℕ × ℕ) × (slice_get points m ≡ Some (key_of (joint_of e))) × Contains links l × (class_of links m ≡ class_of links l.0)
    started e has =
        let (w, listed, end) = end_has_wire ws e has in
        let (l, at, is) = link_of ws links z w listed in
        elim end [
          | inl from ↦ (l.0, l, subst (λ (x : End). slice_get points l.0 ≡ Some (key_of (joint_of x))) from is.0, at, refl)
          | inr to ↦ (
            l.1,
            l,
            subst (λ (x : End). slice_get points l.1 ≡ Some (key_of (joint_of x))) to is.1,
            at,
            (agrees ws links z (joint_of w.1) (joint_of w.0) l.1 l.0 is.1 is.0).forth_to (next (back w listed) here),
          )
        ]

    pub connected_from : AreOneClass (class_of links) links → (e f : End) → HasEnd ws e → HasEnd ws f → Chain (Edge ws) (joint_of e) (joint_of f)
    connected_from one e f has other =
        let (m, l, m_is, l_in, m_class) = started e has in
        let (n, k, n_is, k_in, n_class) = started f other in
        (agrees ws links z (joint_of e) (joint_of f) m n m_is n_is).back_to (m_class ∙ (one l k l_in k_in ∙ sym n_class))

    pub one_from : ((e f : End) → HasEnd ws e → HasEnd ws f → Chain (Edge ws) (joint_of e) (joint_of f)) → AreOneClass (class_of links) links
    one_from connected l k l_in k_in =
        let (w, w_in, w_is) = wire_of ws links z l l_in in
        let (v, v_in, v_is) = wire_of ws links z k k_in in
        (agrees ws links z (joint_of w.0) (joint_of v.0) l.0 k.0 w_is.0 v_is.0).forth_to
        (connected w.0 v.0 (wire_has_ends ws w w_in).0 (wire_has_ends ws v v_in).0)
