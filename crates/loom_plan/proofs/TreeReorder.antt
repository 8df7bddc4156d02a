-- Wires that form a tree form it in any order.
use Rattle.std.proofs.Common.{◌≡◌, ◌⊎◌, inl, inr, ℕ, cond, List, [], ◌∷◌, sym, subst, ◌∙◌, arith, Contains}
use Rattle.loom_base.proofs.Contained.{Contains-here, Contains-cons, Contains-cases}
use Rattle.loom_types.specs.declared.wire.End.{End}
use Rattle.loom_types.specs.declared.wire.End.TheVariants.{Cavity, Splice, Pin}
use Rattle.loom_types.specs.Joined.{Chain, here, next}
use Rattle.loom_types.specs.WireTree.{is_same_end, ends_at, HasEnd, joint_of, Edge, forth, back, Reaches, HasNoCycle, FormsTree}
use Rattle.loom_plan.proofs.Reorder.{Reordered, nothing, keep, turn, then, turned, member-reordered, AreDifferent, sum-reordered, twos-reordered}

edge_kept : (ws vs : List (End × End)) → ((w : End × End) → Contains ws w → Contains vs w) → (p q : End) → Edge ws p q → Edge vs p q
edge_kept ws vs kept p q (forth w at) = forth w (kept w at)
edge_kept ws vs kept p q (back w at) = back w (kept w at)

-- more wires join no less
reaches_kept : (ws vs : List (End × End)) → ((w : End × End) → Contains ws w → Contains vs w) → (p q : End) → Chain (Edge ws) p q → Chain (Edge vs) p q
reaches_kept ws vs kept p q here = here
reaches_kept ws vs kept p q (next {q = r} edge rest) = next (edge_kept ws vs kept p r edge) (reaches_kept ws vs kept r q rest)

joined : (ws : List (End × End)) (p q r : End) → Chain (Edge ws) p q → Chain (Edge ws) q r → Chain (Edge ws) p r
joined ws p q r here rest = rest
joined ws p q r (next {q = s} edge first) rest = next edge (joined ws s q r first rest)

edge_back : (ws : List (End × End)) (p q : End) → Edge ws p q → Edge ws q p
edge_back ws p q (forth w at) = back w at
edge_back ws p q (back w at) = forth w at

reaches_back : (ws : List (End × End)) (p q : End) → Chain (Edge ws) p q → Chain (Edge ws) q p
reaches_back ws p q here = here
reaches_back ws p q (next {q = r} edge rest) = joined ws q r p (reaches_back ws r q rest) (next (edge_back ws p r edge) here)

-- a chain over wires and one more goes without it, or over it once, in one direction or the other
abbrev Ways : End × End → List (End × End) → End → End → Type 0
Ways w ws p q =
    Reaches ws p q
    ⊎ ((Reaches ws p (joint_of w.0) × Reaches ws (joint_of w.1) q) ⊎ (Reaches ws p (joint_of w.1) × Reaches ws (joint_of w.0) q))

over_first : (w : End × End) (ws : List (End × End)) (q : End) → Ways w ws (joint_of w.1) q → Ways w ws (joint_of w.0) q
over_first w ws q (inl chain) = inr (inl (here, chain))
over_first w ws q (inr (inl (one, two))) = inr (inl (here, two))
over_first w ws q (inr (inr (one, two))) = inl two

over_second : (w : End × End) (ws : List (End × End)) (q : End) → Ways w ws (joint_of w.0) q → Ways w ws (joint_of w.1) q
over_second w ws q (inl chain) = inr (inr (here, chain))
over_second w ws q (inr (inl (one, two))) = inl two
over_second w ws q (inr (inr (one, two))) = inr (inr (here, two))

over_other : (w : End × End) (ws : List (End × End)) (p r q : End) → Edge ws p r → Ways w ws r q → Ways w ws p q
over_other w ws p r q edge (inl chain) = inl (next edge chain)
over_other w ws p r q edge (inr (inl (one, two))) = inr (inl (next edge one, two))
over_other w ws p r q edge (inr (inr (one, two))) = inr (inr (next edge one, two))

over : (w : End × End) (ws : List (End × End)) (p r q : End) → Edge (w ∷ ws) p r → Ways w ws r q → Ways w ws p q
over w ws p r q (forth v at) ways = elim (Contains-cases v w ws at) [
  | inl same ↦ subst (λ (u : End × End). Ways w ws (joint_of u.1) q → Ways w ws (joint_of u.0) q) same (over_first w ws q) ways
  | inr later ↦ over_other w ws (joint_of v.0) (joint_of v.1) q (forth v later) ways
]
over w ws p r q (back v at) ways = elim (Contains-cases v w ws at) [
  | inl same ↦ subst (λ (u : End × End). Ways w ws (joint_of u.0) q → Ways w ws (joint_of u.1) q) same (over_second w ws q) ways
  | inr later ↦ over_other w ws (joint_of v.1) (joint_of v.0) q (back v later) ways
]

ways : (w : End × End) (ws : List (End × End)) (p q : End) → Chain (Edge (w ∷ ws)) p q → Ways w ws p q
ways w ws p q here = inl here
ways w ws p q (next {q = r} edge rest) = over w ws p r q edge (ways w ws r q rest)

-- two wires laid one after the other can change places
no_cycle-turned : (w v : End × End) (ws : List (End × End)) → HasNoCycle (w ∷ v ∷ ws) → HasNoCycle (v ∷ w ∷ ws)
no_cycle-turned w v ws free =
    let wider : (p q : End) → Reaches ws p q → Reaches (v ∷ ws) p q =
    λ p q chain. reaches_kept ws (v ∷ ws) (λ u at. Contains-cons u v ws at) p q chain in
    let a = joint_of v.0 in
    let b = joint_of v.1 in
    let c = joint_of w.0 in
    let d = joint_of w.1 in
    let there : Edge (v ∷ ws) a b = forth v (Contains-here v ws) in
    let over_back : Edge (v ∷ ws) b a = back v (Contains-here v ws) in (
      λ chain. elim (ways w ws a b chain) [
        | inl without ↦ free.1.0 without
        | inr (inl (one, two)) ↦
            free.0 (joined (v ∷ ws) c a d (wider c a (reaches_back ws a c one)) (next there (wider b d (reaches_back ws d b two))))
        | inr (inr (one, two)) ↦ free.0 (joined (v ∷ ws) c b d (wider c b two) (next over_back (wider a d one)))
      ],
      (λ chain. free.0 (wider c d chain), free.1.1),
    )

no_cycle-reordered : {ws vs : List (End × End)} → Reordered ws vs → HasNoCycle ws → HasNoCycle vs
no_cycle-reordered nothing free = free
no_cycle-reordered (keep {xs = us} {ys = vs} w r) free = (
  λ chain. free.0 (reaches_kept vs us (λ u at. member-reordered (turned r) u at) (joint_of w.0) (joint_of w.1) chain),
  no_cycle-reordered r free.1,
)
no_cycle-reordered (turn {xs = us} w v) free = no_cycle-turned w v us free
no_cycle-reordered (then r s) free = no_cycle-reordered s (no_cycle-reordered r free)

-- wires without a cycle are different
pub different-no_cycle : (ws : List (End × End)) → HasNoCycle ws → AreDifferent ws
different-no_cycle [] free = tt
different-no_cycle (w ∷ ws) free = (λ at. free.0 (next (forth w at) here), different-no_cycle ws free.1)

module _ {ws vs : List (End × End)} (r : Reordered ws vs) where
  ends-reordered : (e : End) → ends_at ws e ≡ ends_at vs e
  ends-reordered e =
      sum-reordered (λ f. cond (is_same_end e f) 1 0) (twos-reordered (λ (w : End × End). w.0) (λ (w : End × End). w.1) r)

  has_end-back : (e : End) → HasEnd vs e → HasEnd ws e
  has_end-back e has = omega (arith, has, ends-reordered e)

  pub tree-reordered : (cavities : List ℕ) → FormsTree cavities ws → FormsTree cavities vs
  tree-reordered cavities tree = record {
    connected = λ e f has_e has_f.
        reaches_kept ws vs (λ w at. member-reordered r w at) (joint_of e) (joint_of f)
        (tree.connected e f (has_end-back e has_e) (has_end-back f has_f));
    no_cycle = no_cycle-reordered r tree.no_cycle;
    cavity = λ c at. sym (ends-reordered (Cavity (record { 0 = c }))) ∙ tree.cavity c at;
    no_other_cavity = λ c has. tree.no_other_cavity c (has_end-back (Cavity (record { 0 = c })) has);
    splice = λ node ordinal has.
        let few = tree.splice node ordinal (has_end-back (Splice (record { 0 = node }) ordinal) has) in
        omega (arith, few, ends-reordered (Splice (record { 0 = node }) ordinal));
    pin = λ coupler pin side has.
        let sides = tree.pin coupler pin side (has_end-back (Pin (record { 0 = coupler }) pin side) has) in (
          sym (ends-reordered (Pin (record { 0 = coupler }) pin 1)) ∙ sides.0,
          sym (ends-reordered (Pin (record { 0 = coupler }) pin 2)) ∙ sides.1,
        );
  }
