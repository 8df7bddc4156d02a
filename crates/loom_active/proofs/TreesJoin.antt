-- Where the live wires of each net form a tree, they join what nets need, and nothing else.
use Rattle.std.proofs.Common.{◌≡◌, ◌≢◌, ◌⊎◌, inl, inr, ℕ, ◌<◌, ◌≤◌, ◌==◌, List, [], length, map, get_or, refl, sym, ap, ap₂, subst, ◌∙◌, arith, Contains, filter}
use Rattle.std.proofs.lemmas.Bool.{cases_lt, cases_order, eq-eqb, eqb-true}
use Rattle.std.proofs.lemmas.List.{get_or_default}
use Rattle.loom_base.proofs.Contained.{Contains-map, Contains-from_map, Contains-filter, Contains-from_filter}
use Rattle.loom_types.specs.declared.wire.End.{End}
use Rattle.loom_types.specs.declared.wire.End.TheVariants.{Cavity, Splice, Pin}
use Rattle.loom_types.specs.declared.wire.Wire.{Wire}
use Rattle.loom_types.specs.Joined.{HarnessEnd, AtCavity, AtSplice, AtSide, harness_end, start_of, finish_of, EndsAt, Linked, along, back, across, across_back, Chain, here, next, AreJoined, JoinNeeds}
use Rattle.loom_types.specs.Slots.{EndsAtPin}
use Rattle.loom_types.specs.WireTree.{ends_of, HasEnd, joint_of, Edge, Reaches, FormsTree}
use Rattle.loom_types.specs.WireTree as trees
use Rattle.loom_active.proofs.TreeEnds.{end_has_wire, wire_has_ends, same_joint}

-- ---- ends in the harness

at_cavity : (net : ℕ) (e : End) (c : ℕ) → harness_end net e ≡ AtCavity c → e ≡ Cavity (record { 0 = c })
at_cavity net (Cavity d) c h = let n : d.0 ≡ c = cc in ap (λ (k : ℕ). Cavity (record { 0 = k })) n
at_cavity net (Splice v j) c h = absurd (cc)
at_cavity net (Pin x p s) c h = absurd (cc)

at_splice : (net : ℕ) (e : End) (m v j : ℕ) → harness_end net e ≡ AtSplice m v j → net ≡ m
at_splice net (Cavity d) m v j h = absurd (cc)
at_splice net (Splice w k) m v j h = cc
at_splice net (Pin x p s) m v j h = absurd (cc)

at_side : (net : ℕ) (e : End) (x p s : ℕ) → harness_end net e ≡ AtSide x p s → e ≡ Pin (record { 0 = x }) p s
at_side net (Cavity d) x p s h = absurd (cc)
at_side net (Splice v j) x p s h = absurd (cc)
at_side net (Pin y q t) x p s h =
    let coupler : y.0 ≡ x = cc in
    let pin : q ≡ p = cc in
    let side : t ≡ s = cc in
    ap₂ (λ (k l : ℕ). Pin (record { 0 = k }) l t) coupler pin ∙ ap (Pin (record { 0 = x }) p) side

append : {A : Type 0} (R : A → A → Type 0) (p q r : A) → Chain R p q → Chain R q r → Chain R p r
append R p q r here rest = rest
append R p q r (next {q = s} link first) rest = next link (append R s q r first rest)

-- a list with two different members is no shorter
two_members : (xs : List ℕ) (a b : ℕ) → a ≢ b → Contains xs a → Contains xs b → 2 ≤ length xs
two_members xs a b apart (k, k_in, at_a) (l, l_in, at_b) = elim (cases_lt (length xs) 2) [
  | inl few ↦
      let e : k ≡ l = omega arith in
      absurd (apart (sym at_a ∙ get_or_default xs k a b k_in ∙ ap (λ (i : ℕ). get_or xs i b) e ∙ at_b))
  | inr many ↦ many
]

-- ---- the wires of one net

abbrev pub wires_of : ℕ → List Wire → List Wire
wires_of net live = filter (λ w. w.net.0 == net) live

abbrev pub ends_in : ℕ → List Wire → List (End × End)
ends_in net live = map ends_of (wires_of net live)

-- a live wire of the net ends there
record EndsInNet (live : List Wire) (net : ℕ) (p : HarnessEnd) : Type 0 where
  wire : Wire
  listed : Contains live wire
  of_net : wire.net.0 ≡ net
  ends : (start_of wire ≡ p) ⊎ (finish_of wire ≡ p)

module _ (live : List Wire) (net : ℕ) where
  abbrev ws : List (End × End)
  ws = ends_in net live

  wire_in : (w : Wire) → Contains live w → w.net.0 ≡ net → Contains ws (ends_of w)
  wire_in w listed e =
      Contains-map ends_of (wires_of net live) w (Contains-filter (λ (v : Wire). v.net.0 == net) live w listed (eq-eqb w.net.0 net e))

  from_ends : (ends : End × End) → Contains ws ends → (w : Wire) × Contains live w × (w.net.0 ≡ net) × (ends_of w ≡ ends)
  from_ends ends at =
      let (w, kept, is) = Contains-from_map ends_of (wires_of net live) ends at in
      let (listed, e) = Contains-from_filter (λ (v : Wire). v.net.0 == net) live w kept in
      (w, listed, eqb-true w.net.0 net e, is)

  start_is : (w : Wire) (ends : End × End) → w.net.0 ≡ net → ends_of w ≡ ends → start_of w ≡ harness_end net ends.0
  start_is w ends of_net same = ap₂ harness_end of_net (ap (λ (x : End × End). x.0) same)

  finish_is : (w : Wire) (ends : End × End) → w.net.0 ≡ net → ends_of w ≡ ends → finish_of w ≡ harness_end net ends.1
  finish_is w ends of_net same = ap₂ harness_end of_net (ap (λ (x : End × End). x.1) same)

  -- an end of theirs is one of live wires
  ends_live : (e : End) → HasEnd ws e → EndsAt live (harness_end net e)
  ends_live e has =
      let (ends, at, is) = end_has_wire ws e has in
      let (w, listed, of_net, same) = from_ends ends at in
      elim is [
        | inl first ↦ (w, listed, inl (start_is w ends of_net same ∙ ap (harness_end net) first))
        | inr second ↦ (w, listed, inr (finish_is w ends of_net same ∙ ap (harness_end net) second))
      ]

  -- ---- what the tree connects is joined

  crossing : (p q : HarnessEnd) (x r : ℕ) → p ≡ AtSide x r 1 → q ≡ AtSide x r 2 → EndsAt live p → EndsAt live q
      → Chain (Linked live) p q × Chain (Linked live) q p
  crossing p q x r e f at_p at_q =
      let one : EndsAt live (AtSide x r 1) = subst (λ (u : HarnessEnd). EndsAt live u) e at_p in
      let two : EndsAt live (AtSide x r 2) = subst (λ (u : HarnessEnd). EndsAt live u) f at_q in
      subst (λ (u : HarnessEnd). Chain (Linked live) u q × Chain (Linked live) q u) (sym e)
      (subst (λ (u : HarnessEnd). Chain (Linked live) (AtSide x r 1) u × Chain (Linked live) u (AtSide x r 1)) (sym f)
      (next (across x r one two) here, next (across_back x r one two) here))

  at_one_joint : (e f : End) → joint_of e ≡ joint_of f → HasEnd ws e → HasEnd ws f → Chain (Linked live) (harness_end net e) (harness_end net f)
  at_one_joint e f h has_e has_f = elim (same_joint e f h) [
    | inl same ↦ subst (λ (x : End). Chain (Linked live) (harness_end net e) (harness_end net x)) same here
    | inr (inl sides) ↦
        (crossing (harness_end net e) (harness_end net f) sides.coupler sides.pin (ap (harness_end net) sides.one) (ap (harness_end net) sides.two)
        (ends_live e has_e) (ends_live f has_f)).0
    | inr (inr sides) ↦
        (crossing (harness_end net f) (harness_end net e) sides.coupler sides.pin (ap (harness_end net) sides.one) (ap (harness_end net) sides.two)
        (ends_live f has_f) (ends_live e has_e)).1
  ]

  -- an end at a point, to which a chain of links leads
  record JoinedAt (e r : End) : Type 0 where
    to : End
    at : joint_of to ≡ r
    has : HasEnd ws to
    chain : Chain (Linked live) (harness_end net e) (harness_end net to)

  link : (ends : End × End) → Contains ws ends
      → Linked live (harness_end net ends.0) (harness_end net ends.1) × Linked live (harness_end net ends.1) (harness_end net ends.0)
  link ends at =
      let (w, listed, of_net, same) = from_ends ends at in
      subst (λ (u : HarnessEnd). Linked live u (harness_end net ends.1) × Linked live (harness_end net ends.1) u) (start_is w ends of_net same)
      (subst (λ (u : HarnessEnd). Linked live (start_of w) u × Linked live u (start_of w)) (finish_is w ends of_net same)
      (along w listed, back w listed))

  edge_joins : (p r : End) → Edge ws p r → (e : End) → joint_of e ≡ p → HasEnd ws e → JoinedAt e r
  edge_joins p r (trees.forth w listed) e e_p has_e =
      let has = wire_has_ends ws w listed in
      record {
        to = w.1;
        at = refl;
        has = has.1;
        chain =
            append (Linked live) (harness_end net e) (harness_end net w.0) (harness_end net w.1) (at_one_joint e w.0 e_p has_e has.0)
            (next (link w listed).0 here);
      }
  edge_joins p r (trees.back w listed) e e_p has_e =
      let has = wire_has_ends ws w listed in
      record {
        to = w.0;
        at = refl;
        has = has.0;
        chain =
            append (Linked live) (harness_end net e) (harness_end net w.1) (harness_end net w.0) (at_one_joint e w.1 e_p has_e has.1)
            (next (link w listed).1 here);
      }

  reaches_joins : (p q : End) → Chain (Edge ws) p q → (e f : End) → joint_of e ≡ p → joint_of f ≡ q → HasEnd ws e → HasEnd ws f
      → Chain (Linked live) (harness_end net e) (harness_end net f)
  reaches_joins p q here e f e_p f_q has_e has_f = at_one_joint e f (e_p ∙ sym f_q) has_e has_f
  reaches_joins p q (next {q = r} edge rest) e f e_p f_q has_e has_f =
      let step = edge_joins p r edge e e_p has_e in
      append (Linked live) (harness_end net e) (harness_end net step.to) (harness_end net f) step.chain
      (reaches_joins r q rest step.to f step.at f_q step.has has_f)

  tree_joins : (cavities : List ℕ) → FormsTree cavities ws → (a b : ℕ) → Contains cavities a → Contains cavities b → AreJoined live a b
  tree_joins cavities tree a b in_a in_b =
      let has_a : HasEnd ws (Cavity (record { 0 = a })) = omega (arith, tree.cavity a in_a) in
      let has_b : HasEnd ws (Cavity (record { 0 = b })) = omega (arith, tree.cavity b in_b) in
      reaches_joins (Cavity (record { 0 = a })) (Cavity (record { 0 = b }))
      (tree.connected (Cavity (record { 0 = a })) (Cavity (record { 0 = b })) has_a has_b)
      (Cavity (record { 0 = a })) (Cavity (record { 0 = b })) refl refl has_a has_b

-- ---- what is joined is needed

module _ (need : ℕ → List ℕ) (live : List Wire)
    (apart : (c m n : ℕ) → m < n → Contains (need m) c → Contains (need n) c → ⊥)
    (idle : (n : ℕ) → length (need n) < 2 → wires_of n live ≡ [])
    (forms : (n : ℕ) → 2 ≤ length (need n) → FormsTree (need n) (ends_in n live))
    (pins : (w v : Wire) → Contains live w → Contains live v → (x q : ℕ) → EndsAtPin w x q → EndsAtPin v x q → w.net.0 ≡ v.net.0) where
  cavity_needed : (c n : ℕ) → EndsInNet live n (AtCavity c) → Contains (need n) c
  cavity_needed c n at = elim (cases_lt (length (need n)) 2) [
    | inl few ↦
        let kept = Contains-filter (λ (v : Wire). v.net.0 == n) live at.wire at.listed (eq-eqb at.wire.net.0 n at.of_net) in
        let (k, below, is) = subst (λ (l : List Wire). Contains l at.wire) (idle n few) kept in absurd (omega (arith, below))
    | inr many ↦
        let has = wire_has_ends (ends_in n live) (ends_of at.wire) (wire_in live n at.wire at.listed at.of_net) in
        (forms n many).no_other_cavity c (elim at.ends [
          | inl e ↦ subst (λ (x : End). HasEnd (ends_in n live) x) (at_cavity at.wire.net.0 at.wire.from c e) has.0
          | inr e ↦ subst (λ (x : End). HasEnd (ends_in n live) x) (at_cavity at.wire.net.0 at.wire.to c e) has.1
        ])
  ]

  ended : (w : Wire) (x q s : ℕ) → (start_of w ≡ AtSide x q s) ⊎ (finish_of w ≡ AtSide x q s) → EndsAtPin w x q
  ended w x q s (inl e) = (s, inl (at_side w.net.0 w.from x q s e))
  ended w x q s (inr e) = (s, inr (at_side w.net.0 w.to x q s e))

  at_splice_of : (m n v j : ℕ) → EndsInNet live n (AtSplice m v j) → n ≡ m
  at_splice_of m n v j at = elim at.ends [
    | inl e ↦ sym at.of_net ∙ at_splice at.wire.net.0 at.wire.from m v j e
    | inr e ↦ sym at.of_net ∙ at_splice at.wire.net.0 at.wire.to m v j e
  ]

  -- live wires that end at one pin are of one net
  pin_net : (x q s t m n : ℕ) → EndsInNet live m (AtSide x q s) → EndsInNet live n (AtSide x q t) → m ≡ n
  pin_net x q s t m n one other =
      sym one.of_net
      ∙ (pins one.wire other.wire one.listed other.listed x q (ended one.wire x q s one.ends) (ended other.wire x q t other.ends) ∙ other.of_net)

  -- live wires that end at one place are of one net
  same_net : (p : HarnessEnd) (m n : ℕ) → EndsInNet live m p → EndsInNet live n p → m ≡ n
  same_net (AtCavity c) m n one other = elim (cases_order m n) [
    | inl e ↦ e
    | inr (inl less) ↦ absurd (apart c m n less (cavity_needed c m one) (cavity_needed c n other))
    | inr (inr more) ↦ absurd (apart c n m more (cavity_needed c n other) (cavity_needed c m one))
  ]
  same_net (AtSplice k v j) m n one other = at_splice_of k m v j one ∙ sym (at_splice_of k n v j other)
  same_net (AtSide x q s) m n one other = pin_net x q s s m n one other

  own : (p : HarnessEnd) (at : EndsAt live p) → EndsInNet live at.0.net.0 p
  own p (w, listed, ends) = record { wire = w; listed = listed; of_net = refl; ends = ends }

  -- a link doesn't leave the net
  keeps : (n : ℕ) (p q : HarnessEnd) → EndsInNet live n p → Linked live p q → EndsInNet live n q
  keeps n p q at (along w listed) = record {
    wire = w;
    listed = listed;
    of_net = same_net (start_of w) w.net.0 n (own (start_of w) (w, listed, inl refl)) at;
    ends = inr refl;
  }
  keeps n p q at (back w listed) = record {
    wire = w;
    listed = listed;
    of_net = same_net (finish_of w) w.net.0 n (own (finish_of w) (w, listed, inr refl)) at;
    ends = inl refl;
  }
  keeps n p q at (across x r one two) =
      let there = own (AtSide x r 2) two in
      record { wire = two.0; listed = two.1; of_net = pin_net x r 2 1 two.0.net.0 n there at; ends = two.2 }
  keeps n p q at (across_back x r one two) =
      let there = own (AtSide x r 1) one in
      record { wire = one.0; listed = one.1; of_net = pin_net x r 1 2 one.0.net.0 n there at; ends = one.2 }

  chain_keeps : (n : ℕ) (p q : HarnessEnd) → EndsInNet live n p → Chain (Linked live) p q → EndsInNet live n q
  chain_keeps n p q at here = at
  chain_keeps n p q at (next {q = r} first rest) = chain_keeps n r q (keeps n p r at first) rest

  begins : (p q : HarnessEnd) → Linked live p q → EndsAt live p
  begins p q (along w listed) = (w, listed, inl refl)
  begins p q (back w listed) = (w, listed, inr refl)
  begins p q (across x r one two) = one
  begins p q (across_back x r one two) = two

  stays : (p q : HarnessEnd) → Chain (Linked live) p q → (p ≡ q) ⊎ ((n : ℕ) × EndsInNet live n p × EndsInNet live n q)
  stays p q here = inl refl
  stays p q (next {q = r} first rest) =
      let at = begins p r first in
      let n = at.0.net.0 in
      let from = own p at in
      inr (n, from, chain_keeps n r q (keeps n p r from first) rest)

  joined_needed : (a b : ℕ) → a ≢ b → AreJoined live a b → (n : ℕ) × Contains (need n) a × Contains (need n) b
  joined_needed a b differ chain = elim (stays (AtCavity a) (AtCavity b) chain) [
    | inl e ↦ absurd (differ (cc))
    | inr (n, at_a, at_b) ↦ (n, cavity_needed a n at_a, cavity_needed b n at_b)
  ]

  -- the live wires join two different cavities exactly when one net needs both
  pub trees_join_needs : JoinNeeds need live
  trees_join_needs a b differ = (
    λ chain. joined_needed a b differ chain,
    λ (n, in_a, in_b). tree_joins live n (need n) (forms n (two_members (need n) a b differ in_a in_b)) a b in_a in_b,
  )
