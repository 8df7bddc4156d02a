-- Live sets, from the patterns of signs of nets.
use Rattle.std.proofs.Common.{◌≡◌, ℕ, ◌+◌, ◌<◌, ◌≤◌, inl, inr, Bool, true, ◌==◌, List, [], ◌∷◌, ◌++◌, length, map, get_or, Some, None, Option, refl, sym, ap, subst, ◌∙◌, arith, IsTrue, Contains, ◌↔◌, if◌then◌else◌, filter}
use Rattle.std.specs.Prelude.{count_ones}
use Rattle.std.specs.List.{filter_map, cons_option, AllPairs}
use Rattle.std.proofs.lemmas.Bool.{cases_lt, cases_order, le-leb, lt-leb, eq-eqb, and_from}
use Rattle.std.proofs.lemmas.List.{length-map, get_or_default, get_or_past}
use Rattle.std.proofs.lemmas.Option.{slice_get_within, same_Some}
use Rattle.std.proofs.lemmas.List.Sums.{length-filter}
use Rattle.std.proofs.lemmas.List.Elements.{Contains-append_left, Contains-append_right, Contains-append_cases, All-map}
use Rattle.loom_base.specs.declared.positions.NetNo.{NetNo}
use Rattle.loom_base.proofs.Contained.{Contains-here, Contains-cons, Contains-cases}
use Rattle.loom_formula.specs.Formula.{holds_of}
use Rattle.loom_project.specs.declared.draft.Draft.{Draft}
use Rattle.loom_project.specs.declared.draft.TerminalDraft.{TerminalDraft}
use Rattle.loom_project.specs.Draft.{index_of, cavity_names}
use Rattle.loom_project.specs.Project.{net_at, no_net}
use Rattle.loom_rows.specs.declared.cond.Cond.{Cond}
use Rattle.loom_rows.specs.Condition.{Meaning, value}
use Rattle.loom_rows.specs.Table.{Table, Has}
use Rattle.loom_rows.specs.Formulas.{meaning_of}
use Rattle.loom_rows.proofs.Conditions.{same}
use Rattle.loom_rows.proofs.Counted.{element, pigeons}
use Rattle.loom_active.specs.declared.live.LiveSet.{LiveSet}
use Rattle.loom_active.specs.declared.patterns.Pattern.{Pattern}
use Rattle.loom_active.specs.declared.terminals.Terminal.{Terminal}
use Rattle.loom_active.specs.Needs.{is_valid_for, need_of, active_terminals}
use Rattle.loom_active.specs.LiveSets.{mask_of, need_mask, IsLiveUnder, IsLiveSet, IsListedBefore}
use Rattle.loom_active.specs.LiveStops.{HaveMoreSets}
use Rattle.loom_active.specs.LiveWork.{signed, formulas_of}
use Rattle.loom_active.specs.Patterns.{ArePatterns, AreRising}
use Rattle.loom_active.specs.Terminals.{AreTerminalsOf, whens_of}
use Rattle.loom_active.specs.FoundSets.{ComesBefore, AreLiveSets, AreLiveSetsBelow, set_of}
use Rattle.loom_active.proofs.Masks.{mask_of-ones, signed-is}
use Rattle.loom_active.proofs.Pairs.{at_index, pairs-none, pairs-cons, pairs-head, pairs-tail, pairs-append, pairs-map, slice_get-map, same_lists}
use Rattle.loom_active.proofs.TerminalSteps.{drafts_of}

-- ---- a net's formulas

-- the terminals' conditions are the formulas of the net
pub whens-formulas : (draft : Draft) (t : Table) (valid : Meaning) (net : ℕ) (terminals : List Terminal) → AreTerminalsOf draft t valid net terminals → whens_of terminals ≡ formulas_of draft.options (net_at draft net)
whens-formulas draft t valid net terminals are =
    same_lists (whens_of terminals) (formulas_of draft.options (net_at draft net))
    (length-map terminals (λ x. value x.when) ∙ sym (length-map terminals (λ x. x.cavity.0)) ∙ ap length are.cavities
    ∙ length-map (drafts_of draft net) (λ d. index_of (cavity_names draft.cavities) d.cavity) ∙ sym (length-map (drafts_of draft net) (λ d. meaning_of draft.options d.when)))
    (λ i x y at_x at_y.
    let lt = slice_get_within (whens_of terminals) i x at_x in
    let z = element terminals i (omega (arith, lt, length-map terminals (λ w. value w.when))) in
    let w = are.each i z.0 y z.1 at_y in
    same_Some x (value z.0.when) (sym at_x ∙ slice_get-map (λ v. value v.when) terminals i z.0 z.1) ∙ same w.when)

module _ (draft : Draft) (net : ℕ) where
  abbrev fs : List Meaning
  fs = formulas_of draft.options (net_at draft net)

  values_same : (ts : List TerminalDraft) (c : ℕ → Bool) → map (λ f. f c) (map (λ d. meaning_of draft.options d.when) ts) ≡ map (λ d. holds_of d.when draft.options c) ts
  values_same [] c = refl
  values_same (d ∷ ts) c = ap (λ l. holds_of d.when draft.options c ∷ l) (values_same ts c)

  mask_is : (c : ℕ → Bool) → mask_of (map (λ f. f c) fs) ≡ need_mask draft c net
  mask_is c = ap mask_of (values_same (drafts_of draft net) c)

  -- as many cavities are needed as bits are set
  pub need-count : (c : ℕ → Bool) → length (need_of draft c net) ≡ count_ones (need_mask draft c net)
  need-count c =
      length-map (active_terminals draft c net) (λ d. index_of (cavity_names draft.cavities) d.cavity)
      ∙ length-filter (λ (d : TerminalDraft). holds_of d.when draft.options c) (drafts_of draft net)
      ∙ sym (mask_of-ones (λ (d : TerminalDraft). holds_of d.when draft.options c) (drafts_of draft net))

  -- a pattern of at least two bits holds exactly where its set is live
  pub pattern-live : (mask : ℕ) (c : ℕ → Bool) → 2 ≤ count_ones mask → signed (is_valid_for draft) fs mask c ≡ true → IsLiveUnder draft c net mask
  pattern-live mask c two e =
      let p = signed-is (is_valid_for draft) fs (is_valid_for draft) c mask e in
      let m : need_mask draft c net ≡ mask = sym (mask_is c) ∙ p.1 in
      record { valid = p.0; needs = m; some = omega (arith, need-count c, ap count_ones m, two) }

  pub live-pattern : (mask : ℕ) (c : ℕ → Bool) → IsLiveUnder draft c net mask → signed (is_valid_for draft) fs mask c ≡ true
  live-pattern mask c live = and_from (is_valid_for draft c) (mask_of (map (λ f. f c) fs) == mask) live.valid (eq-eqb (mask_of (map (λ f. f c) fs)) mask (mask_is c ∙ live.needs))

  pub live-two : (mask : ℕ) (c : ℕ → Bool) → IsLiveUnder draft c net mask → 2 ≤ count_ones mask
  live-two mask c live = omega (arith, live.some, need-count c, ap count_ones live.needs)

-- a net past the list needs nothing
pub live-in_range : (draft : Draft) (net mask : ℕ) → IsLiveSet draft net mask → net < length draft.nets
live-in_range draft net mask (c, live) =
    elim (cases_lt net (length draft.nets)) [
      | inl lt ↦ lt
      | inr past ↦
          let none : length (need_of draft c net) ≡ 0 = ap (λ n. length (map (λ (d : TerminalDraft). index_of (cavity_names draft.cavities) d.cavity) (filter (λ (d : TerminalDraft). holds_of d.when draft.options c) n.terminals))) (get_or_past draft.nets net no_net past) in
          absurd (omega (arith, live.some, none))
    ]

-- ---- the sets of a net

abbrev pub set_at : NetNo → Pattern → LiveSet
set_at net p = record { net = net; mask = p.mask; cond = p.cond }

pub kept_set : (net : NetNo) (p : Pattern) → 2 ≤ count_ones p.mask → set_of net p ≡ Some (set_at net p)
kept_set net p two = ap (λ b. if b then Some (set_at net p) else None) (le-leb 2 (count_ones p.mask) two)

pub left_set : (net : NetNo) (p : Pattern) → count_ones p.mask < 2 → set_of net p ≡ None
left_set net p few = ap (λ b. if b then Some (set_at net p) else None) (lt-leb 2 (count_ones p.mask) few)

-- the sets of the patterns, and only these
pub sets-some : (net : NetNo) (ps : List Pattern) (s : LiveSet) → Contains (filter_map (set_of net) ps) s → (p : Pattern) × Contains ps p × (2 ≤ count_ones p.mask) × (set_at net p ≡ s)
sets-some net [] s at = absurd (let lt : at.0 < 0 = at.1 in omega arith)
sets-some net (q ∷ ps) s at =
    elim (cases_lt (count_ones q.mask) 2) [
      | inl few ↦
          let rest = sets-some net ps s (subst (λ (o : Option LiveSet). Contains (cons_option o (filter_map (set_of net) ps)) s) (left_set net q few) at) in
          (rest.0, Contains-cons rest.0 q ps rest.1, rest.2, rest.3)
      | inr two ↦ elim (Contains-cases s (set_at net q) (filter_map (set_of net) ps) (subst (λ (o : Option LiveSet). Contains (cons_option o (filter_map (set_of net) ps)) s) (kept_set net q two) at)) [
        | inl e ↦ (q, Contains-here q ps, two, e)
        | inr later ↦ let rest = sets-some net ps s later in (rest.0, Contains-cons rest.0 q ps rest.1, rest.2, rest.3)
      ]
    ]

pub some-sets : (net : NetNo) (ps : List Pattern) (p : Pattern) → Contains ps p → 2 ≤ count_ones p.mask → Contains (filter_map (set_of net) ps) (set_at net p)
some-sets net [] p at two = absurd (let lt : at.0 < 0 = at.1 in omega arith)
some-sets net (q ∷ ps) p at two =
    elim (Contains-cases p q ps at) [
      | inl e ↦
          subst (λ (o : Option LiveSet). Contains (cons_option o (filter_map (set_of net) ps)) (set_at net p)) (sym (ap (set_of net) e ∙ kept_set net p two)) (Contains-here (set_at net p) (filter_map (set_of net) ps))
      | inr later ↦ elim (cases_lt (count_ones q.mask) 2) [
        | inl few ↦ subst (λ (o : Option LiveSet). Contains (cons_option o (filter_map (set_of net) ps)) (set_at net p)) (sym (left_set net q few)) (some-sets net ps p later two)
        | inr more ↦
            subst (λ (o : Option LiveSet). Contains (cons_option o (filter_map (set_of net) ps)) (set_at net p)) (sym (kept_set net q more))
            (Contains-cons (set_at net p) (set_at net q) (filter_map (set_of net) ps) (some-sets net ps p later two))
      ]
    ]

abbrev rises : Pattern → Pattern → Type 0
rises one other = one.mask < other.mask

pub sets-order : (net : NetNo) (ps : List Pattern) → AreRising ps → AllPairs ComesBefore (filter_map (set_of net) ps)
sets-order net [] rising = pairs-none ComesBefore
sets-order net (q ∷ ps) rising =
    let rest = sets-order net ps (pairs-tail rises q ps rising) in
    elim (cases_lt (count_ones q.mask) 2) [
      | inl few ↦ subst (λ (o : Option LiveSet). AllPairs ComesBefore (cons_option o (filter_map (set_of net) ps))) (sym (left_set net q few)) rest
      | inr two ↦
          subst (λ (o : Option LiveSet). AllPairs ComesBefore (cons_option o (filter_map (set_of net) ps))) (sym (kept_set net q two))
          (pairs-cons ComesBefore (set_at net q) (filter_map (set_of net) ps)
          (λ s at.
          let p = sets-some net ps s at in
          subst (λ (z : LiveSet). ComesBefore (set_at net q) z) p.3 (inr (refl, pairs-head rises q ps rising p.0 p.1)))
          rest)
    ]

-- ---- net by net

pub sets-none : (draft : Draft) (t : Table) → AreLiveSetsBelow draft t 0 []
sets-none draft t = record {
  order = pairs-none ComesBefore;
  each = λ s at. absurd (let lt : at.0 < 0 = at.1 in omega arith);
  all = λ net mask lt. absurd (omega arith);
  has = λ s at. absurd (let lt : at.0 < 0 = at.1 in omega arith);
  condition = λ s at. absurd (let lt : at.0 < 0 = at.1 in omega arith);
}

module _ (draft : Draft) (t u : Table) (n : ℕ) (net : NetNo) (net_is : net.0 ≡ n) (old : List LiveSet) (sets : AreLiveSetsBelow draft t n old) (kept : (x : Cond) → Has t x → Has u x)
    (ps : List Pattern) (patterns : ArePatterns u (is_valid_for draft) (formulas_of draft.options (net_at draft n)) ps) where
  abbrev new : List LiveSet
  new = filter_map (set_of net) ps

  -- what a set of this net says
  here-is : (s : LiveSet) → Contains new s → (c : ℕ → Bool) → IsTrue (value s.cond c) ↔ IsLiveUnder draft c s.net.0 s.mask
  here-is s at c =
      let p = sets-some net ps s at in
      subst (λ (z : LiveSet). IsTrue (value z.cond c) ↔ IsLiveUnder draft c z.net.0 z.mask) p.3
      (subst (λ (m : ℕ). IsTrue (value p.0.cond c) ↔ IsLiveUnder draft c m p.0.mask) (sym net_is)
      (λ holds. pattern-live draft n p.0.mask c p.2 (sym (patterns.is p.0 p.1 c) ∙ holds), λ live. patterns.is p.0 p.1 c ∙ live-pattern draft n p.0.mask c live))

  here-live : (s : LiveSet) → Contains new s → (s.net.0 ≡ n) × IsLiveSet draft s.net.0 s.mask
  here-live s at =
      let p = sets-some net ps s at in
      let possible = patterns.some p.0 p.1 in (
        ap (λ (z : LiveSet). z.net.0) (sym p.3) ∙ net_is,
        (possible.0, (here-is s at possible.0).0 (ap (λ (z : LiveSet). value z.cond possible.0) (sym p.3) ∙ possible.1)),
      )

  pub sets-next : AreLiveSetsBelow draft u (n + 1) (old ++ new)
  sets-next = record {
    order = pairs-append ComesBefore old new sets.order (sets-order net ps patterns.order) (λ x y at_x at_y. inl (omega (arith, (sets.each x at_x).0, (here-live y at_y).0)));
    each = λ s at. elim (Contains-append_cases old new s at) [
      | inl before ↦ let e = sets.each s before in (omega (arith, e.0), e.1)
      | inr here ↦ let e = here-live s here in (omega (arith, e.0), e.1)
    ];
    all = λ m mask lt live. elim (cases_lt m n) [
      | inl before ↦ let s = sets.all m mask before live in (s.0, Contains-append_left old new s.0 s.1, s.2, s.3)
      | inr here ↦
          let m_is : m ≡ n = omega arith in
          let of_n : IsLiveUnder draft live.0 n mask = subst (λ (k : ℕ). IsLiveUnder draft live.0 k mask) m_is live.1 in
          let p = patterns.all mask (live.0, live-pattern draft n mask live.0 of_n) in (
            set_at net p.0,
            Contains-append_right old new (set_at net p.0) (some-sets net ps p.0 p.1 (subst (λ (k : ℕ). 2 ≤ count_ones k) (sym p.2) (live-two draft n mask live.0 of_n))),
            net_is ∙ sym m_is,
            p.2,
          )
    ];
    has = λ s at. elim (Contains-append_cases old new s at) [
      | inl before ↦ kept s.cond (sets.has s before)
      | inr here ↦ let p = sets-some net ps s here in subst (λ (z : LiveSet). Has u z.cond) p.3 (patterns.has p.0 p.1)
    ];
    condition = λ s at. elim (Contains-append_cases old new s at) [ inl before ↦ sets.condition s before | inr here ↦ here-is s here ];
  }

pub sets-all : (draft : Draft) (t : Table) (n : ℕ) (sets : List LiveSet) → length draft.nets ≤ n → AreLiveSetsBelow draft t n sets → AreLiveSets draft t sets
sets-all draft t n sets past below = record {
  order = below.order;
  each = λ s at. (below.each s at).1;
  all = λ net mask live. below.all net mask (omega (arith, live-in_range draft net mask live)) live;
  has = below.has;
  condition = below.condition;
}

-- ---- how many there are

pub sets-many : (draft : Draft) (t : Table) (n limit : ℕ) (sets : List LiveSet) → AreLiveSetsBelow draft t n sets → limit < length sets → HaveMoreSets draft n limit
sets-many draft t n limit sets below many = let key : LiveSet → ℕ × ℕ = λ s. (s.net.0, s.mask) in record {
  listed = map key sets;
  different = pairs-map (λ (one other : ℕ × ℕ). IsListedBefore one.0 one.1 other.0 other.1) key sets below.order;
  live = All-map (λ (q : ℕ × ℕ). (q.0 < n) × IsLiveSet draft q.0 q.1) key sets (λ k d lt. below.each (get_or sets k d) (at_index sets k d lt));
  many = omega (arith, many, length-map sets key);
}

pub sets-few : (draft : Draft) (t : Table) (n limit : ℕ) (sets : List LiveSet) → AreLiveSetsBelow draft t n sets → length sets ≤ limit → HaveMoreSets draft n limit → ⊥
sets-few draft t n limit sets below few more =
    absurd (omega (arith, few, more.many, pigeons (length more.listed) (length sets) place in_place apart))
  where
    found : (i : ℕ) → i < length more.listed → (set : LiveSet) × Contains sets set × (set.net.0 ≡ (get_or more.listed i (0, 0)).0) × (set.mask ≡ (get_or more.listed i (0, 0)).1)
    found i lt = let q = more.live i (0, 0) lt in below.all (get_or more.listed i (0, 0)).0 (get_or more.listed i (0, 0)).1 q.0 q.1

    place : (i : ℕ) → i < length more.listed → ℕ
    place i lt = (found i lt).1.0

    in_place : (i : ℕ) (p : i < length more.listed) → place i p < length sets
    in_place i p = (found i p).1.1

    same_set : (i j : ℕ) (p : i < length more.listed) (q : j < length more.listed) → place i p ≡ place j q → (found i p).0 ≡ (found j q).0
    same_set i j p q e =
        sym (found i p).1.2 ∙ get_or_default sets (place i p) (found i p).0 (found j q).0 (in_place i p) ∙ ap (λ k. get_or sets k (found j q).0) e ∙ (found j q).1.2

    not_before : (i j : ℕ) (p : i < length more.listed) (q : j < length more.listed) → place i p ≡ place j q → i < j → ⊥
    not_before i j p q e lt =
        let net_same : (get_or more.listed i (0, 0)).0 ≡ (get_or more.listed j (0, 0)).0 = sym (found i p).2 ∙ ap (λ (s : LiveSet). s.net.0) (same_set i j p q e) ∙ (found j q).2 in
        let mask_same : (get_or more.listed i (0, 0)).1 ≡ (get_or more.listed j (0, 0)).1 = sym (found i p).3 ∙ ap (λ (s : LiveSet). s.mask) (same_set i j p q e) ∙ (found j q).3 in
        elim (more.different i j (0, 0) lt q) [ inl less ↦ omega arith | inr (same_net, less) ↦ omega arith ]

    apart : (i j : ℕ) (p : i < length more.listed) (q : j < length more.listed) → place i p ≡ place j q → i ≡ j
    apart i j p q e =
        elim (cases_order i j) [
          | inl is ↦ is
          | inr (inl lt) ↦ absurd (not_before i j p q e lt)
          | inr (inr lt) ↦ absurd (not_before j i q p (sym e) lt)
        ]
