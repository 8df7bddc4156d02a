-- The patterns of signs of formulas, one formula after another.
use Rattle.std.proofs.Common.{◌≡◌, ◌≢◌, ℕ, suc, ◌+◌, ◌-◌, ◌^◌, ◌<◌, ◌⊎◌, inl, inr, not, ◌&&◌, List, [], ◌∷◌, ◌++◌, length, get_or, take, refl, sym, ap, subst, ◌∙◌, arith, Contains, Result, Ok, length-append}
use Rattle.std.specs.List.{flat_map, range_with_len}
use Rattle.std.proofs.Math.Nat.{pow-succ'}
use Rattle.std.proofs.lemmas.Bool.{cases_Bool, cases_eq, cases_lt, true≢false, and_parts}
use Rattle.std.proofs.lemmas.List.{get_or_default, get_or-take, take_more, length-take}
use Rattle.std.proofs.lemmas.List.FromFn.{get_or-range_with_len, length-range_with_len}
use Rattle.std.proofs.lemmas.List.Elements.{Contains-append_left, Contains-append_right, Contains-append_cases, Contains-push, Contains-push_cases}
use Rattle.std.proofs.lemmas.List.Quantifiers.{all_pairs_push}
use Rattle.std.proofs.lemmas.List.Concat.{flat_map_single}
use Rattle.loom_base.proofs.Contained.{Contains-here, Contains-cons, Contains-cases, Contains-map, Contains-from_map, Contains-range_with_len}
use Rattle.loom_rows.specs.declared.cond.Cond.{Cond}
use Rattle.loom_rows.specs.declared.stop.RowsStop.{RowsStop}
use Rattle.loom_rows.specs.Condition.{Meaning, value, both, negation}
use Rattle.loom_rows.specs.Table.{Table, Has, IsSound}
use Rattle.loom_rows.specs.Leftovers.{AreSame, Works}
use Rattle.loom_rows.specs.Meet.{IsNever, IsPossible}
use Rattle.loom_rows.proofs.Conditions.{same}
use Rattle.loom_rows.proofs.Progress.{Progress, progress-none}
use Rattle.loom_active.specs.declared.patterns.Pattern.{Pattern}
use Rattle.loom_active.specs.LiveWork.{signed, patterns}
use Rattle.loom_active.specs.Patterns.{AreRising, ArePatterns, IsJoinedWith, AreJoinedWith, joined_worked}
use Rattle.loom_active.proofs.Masks.{signed-low, signed-high, signed-below}
use Rattle.loom_active.proofs.Pairs.{pairs-append}
use Rattle.loom_active.proofs.Steps.{step-next}
use Rattle.loom_active.proofs.Alike.{AreAmong, works-alike}

-- ---- lists

abbrev rises : Pattern → Pattern → Type 0
rises one other = one.mask < other.mask

in_range : (a n s : ℕ) → Contains (range_with_len a n) s → s < a + n
in_range a n s (k, lt, e) = let k_lt : k < n = omega (arith, length-range_with_len a n) in omega (arith, e, get_or-range_with_len a n k s k_lt)

-- whether some pattern has a mask
pub find_mask : (ps : List Pattern) (m : ℕ) → ((p : Pattern) × Contains ps p × (p.mask ≡ m)) ⊎ ((p : Pattern) → Contains ps p → p.mask ≢ m)
find_mask [] m = inr (λ p at e. absurd (let lt : at.0 < 0 = at.1 in omega arith))
find_mask (q ∷ ps) m =
    elim (cases_eq q.mask m) [
      | inl e ↦ inl (q, Contains-here q ps, e)
      | inr other ↦ elim (find_mask ps m) [
        | inl s ↦ inl (s.0, Contains-cons s.0 q ps s.1, s.2)
        | inr none ↦ inr (λ p at e. elim (Contains-cases p q ps at) [ inl is ↦ other (ap (λ x. x.mask) is ∙ e) | inr rest ↦ none p rest e ])
      ]
    ]

-- ---- one further formula

module _ (t : Table) (valid : Meaning) (fs : List Meaning) (ps : List Pattern) (known : ArePatterns t valid fs ps) (f : Meaning) where
  abbrev high_bit : ℕ
  high_bit = 2 ^ length fs

  -- what is worked out: the negation, the patterns without the formula, and those with it
  abbrev pub split_worked : List Meaning
  split_worked = (negation f ∷ [] ++ joined_worked (negation f) ps) ++ joined_worked f ps

  longer : 2 ^ length (fs ++ f ∷ []) ≡ high_bit + high_bit
  longer = ap (λ n. 2 ^ n) (length-append fs (f ∷ [])) ∙ double (length fs)
    where
      double : (n : ℕ) → 2 ^ (n + 1) ≡ 2 ^ n + 2 ^ n
      double n = let e : n + 1 ≡ suc n = omega arith in ap (λ k. 2 ^ k) e ∙ pow-succ' 2 n ∙ omega arith

  -- a mask below the further bit, or one with it, or past all
  low_of : (p : Pattern) → Contains ps p → signed valid (fs ++ f ∷ []) p.mask ≡ both (value p.cond) (negation f)
  low_of p at = same (λ c. signed-low valid fs f c p.mask (known.below p at) ∙ λ i. sym (known.is p at c) i && not (f c))

  high_of : (p : Pattern) → Contains ps p → signed valid (fs ++ f ∷ []) (p.mask + high_bit) ≡ both (value p.cond) f
  high_of p at = same (λ c. signed-high valid fs f c p.mask (known.below p at) ∙ λ i. sym (known.is p at c) i && f c)

  never_low : (m : ℕ) → m < high_bit → ((p : Pattern) → Contains ps p → p.mask ≢ m) → IsNever (signed valid (fs ++ f ∷ []) m)
  never_low m lt none c =
      signed-low valid fs f c m lt
      ∙ elim (cases_Bool (signed valid fs m c)) [
        | inl e ↦ let s = known.all m (c, e) in absurd (none s.0 s.1 s.2)
        | inr e ↦ ap (λ b. b && not (f c)) e
      ]

  never_high : (m : ℕ) → m < high_bit → ((p : Pattern) → Contains ps p → p.mask ≢ m) → IsNever (signed valid (fs ++ f ∷ []) (m + high_bit))
  never_high m lt none c =
      signed-high valid fs f c m lt
      ∙ elim (cases_Bool (signed valid fs m c)) [
        | inl e ↦ let s = known.all m (c, e) in absurd (none s.0 s.1 s.2)
        | inr e ↦ ap (λ b. b && f c) e
      ]

  -- a joined condition is that of some pattern
  joined-some : (g h : Meaning) → Contains (joined_worked g ps) h → (p : Pattern) × Contains ps p × (both (value p.cond) g ≡ h)
  joined-some g h at = Contains-from_map (λ p. both (value p.cond) g) ps h (subst (λ (l : List Meaning). Contains l h) (flat_map_single (λ p. both (value p.cond) g) ps) at)

  some-joined : (g : Meaning) (p : Pattern) → Contains ps p → Contains (joined_worked g ps) (both (value p.cond) g)
  some-joined g p at = subst (λ (l : List Meaning). Contains l (both (value p.cond) g)) (sym (flat_map_single (λ p. both (value p.cond) g) ps)) (Contains-map (λ p. both (value p.cond) g) ps p at)

  abbrev next_worked : List Meaning
  next_worked = negation f ∷ patterns valid (fs ++ f ∷ [])

  has_pattern : (m : ℕ) → m < 2 ^ length (fs ++ f ∷ []) → Contains next_worked (signed valid (fs ++ f ∷ []) m)
  has_pattern m lt =
      Contains-cons (signed valid (fs ++ f ∷ []) m) (negation f) (patterns valid (fs ++ f ∷ []))
      (Contains-map (signed valid (fs ++ f ∷ [])) (range_with_len 0 (2 ^ length (fs ++ f ∷ []))) m (Contains-range_with_len 0 (2 ^ length (fs ++ f ∷ [])) m (omega arith) (omega arith)))

  into : (h : Meaning) → Contains split_worked h → Contains next_worked h
  into h at =
      elim (Contains-append_cases (negation f ∷ [] ++ joined_worked (negation f) ps) (joined_worked f ps) h at) [
        | inl left ↦ elim (Contains-cases h (negation f) (joined_worked (negation f) ps) left) [
          | inl e ↦ subst (Contains next_worked) e (Contains-here (negation f) (patterns valid (fs ++ f ∷ [])))
          | inr low ↦
              let s = joined-some (negation f) h low in
              subst (Contains next_worked) (low_of s.0 s.1 ∙ s.2) (has_pattern s.0.mask (omega (arith, longer, known.below s.0 s.1)))
        ]
        | inr high ↦
            let s = joined-some f h high in
            subst (Contains next_worked) (high_of s.0 s.1 ∙ s.2) (has_pattern (s.0.mask + high_bit) (omega (arith, longer, known.below s.0 s.1)))
      ]

  of_mask : (m : ℕ) → m < high_bit + high_bit → Contains split_worked (signed valid (fs ++ f ∷ []) m) ⊎ IsNever (signed valid (fs ++ f ∷ []) m)
  of_mask m lt =
      elim (cases_lt m high_bit) [
        | inl low ↦ elim (find_mask ps m) [
          | inl s ↦
              inl (subst (Contains split_worked) (sym (low_of s.0 s.1) ∙ ap (signed valid (fs ++ f ∷ [])) s.2)
              (Contains-append_left (negation f ∷ [] ++ joined_worked (negation f) ps) (joined_worked f ps) (both (value s.0.cond) (negation f))
              (Contains-cons (both (value s.0.cond) (negation f)) (negation f) (joined_worked (negation f) ps) (some-joined (negation f) s.0 s.1))))
          | inr none ↦ inr (never_low m low none)
        ]
        | inr high ↦
            let back : (m - high_bit) + high_bit ≡ m = omega arith in
            elim (find_mask ps (m - high_bit)) [
              | inl s ↦
                  inl (subst (Contains split_worked) (sym (high_of s.0 s.1) ∙ ap (λ n. signed valid (fs ++ f ∷ []) (n + high_bit)) s.2 ∙ ap (signed valid (fs ++ f ∷ [])) back)
                  (Contains-append_right (negation f ∷ [] ++ joined_worked (negation f) ps) (joined_worked f ps) (both (value s.0.cond) f) (some-joined f s.0 s.1)))
              | inr none ↦ inr (subst (λ (n : ℕ). IsNever (signed valid (fs ++ f ∷ []) n)) back (never_high (m - high_bit) (omega arith) none))
            ]
      ]

  among : AreAmong next_worked split_worked
  among h at =
      elim (Contains-cases h (negation f) (patterns valid (fs ++ f ∷ [])) at) [
        | inl e ↦
            inl (subst (Contains split_worked) e
            (Contains-append_left (negation f ∷ [] ++ joined_worked (negation f) ps) (joined_worked f ps) (negation f) (Contains-here (negation f) (joined_worked (negation f) ps))))
        | inr rest ↦
            let s = Contains-from_map (signed valid (fs ++ f ∷ [])) (range_with_len 0 (2 ^ length (fs ++ f ∷ []))) h rest in
            let P : Meaning → Type 0 = λ g. Contains split_worked g ⊎ IsNever g in
            subst P s.2 (of_mask s.0 (omega (arith, longer, in_range 0 (2 ^ length (fs ++ f ∷ [])) s.0 s.1)))
      ]

  pub split-works : {A : Type 0} (old new : Table) (r : Result A RowsStop) → Works split_worked old new r → Works next_worked old new r
  split-works old new r w = works-alike split_worked next_worked old new r into among w

  -- the patterns without the formula, then those with it
  pub split-patterns : (u : Table) (low high : List Pattern) → AreJoinedWith u (negation f) 0 ps low → AreJoinedWith u f high_bit ps high → ArePatterns u valid (fs ++ f ∷ []) (low ++ high)
  split-patterns u low high l h = record {
    order = pairs-append rises low high l.order h.order
        (λ x y at_x at_y.
        let p = l.each x at_x in
        let q = h.each y at_y in
        omega (arith, p.2.mask, q.2.mask, known.below p.0 p.1));
    below = λ q at. elim (Contains-append_cases low high q at) [
      | inl left ↦ let p = l.each q left in omega (arith, longer, p.2.mask, known.below p.0 p.1)
      | inr right ↦ let p = h.each q right in omega (arith, longer, p.2.mask, known.below p.0 p.1)
    ];
    has = λ q at. elim (Contains-append_cases low high q at) [ inl left ↦ (l.each q left).2.has | inr right ↦ (h.each q right).2.has ];
    is = λ q at. elim (Contains-append_cases low high q at) [
      | inl left ↦
          let p = l.each q left in
          let e : p.0.mask ≡ q.mask = omega (arith, p.2.mask) in
          λ c. p.2.is c ∙ ap (λ g. g c) (sym (low_of p.0 p.1) ∙ ap (signed valid (fs ++ f ∷ [])) e)
      | inr right ↦
          let p = h.each q right in
          λ c. p.2.is c ∙ ap (λ g. g c) (sym (high_of p.0 p.1) ∙ ap (signed valid (fs ++ f ∷ [])) (sym p.2.mask))
    ];
    some = λ q at. elim (Contains-append_cases low high q at) [ inl left ↦ (l.each q left).2.some | inr right ↦ (h.each q right).2.some ];
    all = λ m (c, e).
        let lt = signed-below valid (fs ++ f ∷ []) f c m e in
        elim (cases_lt m high_bit) [
          | inl below ↦
              let parts = and_parts (signed valid fs m c) (negation f c) (sym (signed-low valid fs f c m below) ∙ e) in
              let p = known.all m (c, parts.0) in
              let q = l.all p.0 p.1 (c, ap (λ g. g c) (sym (low_of p.0 p.1) ∙ ap (signed valid (fs ++ f ∷ [])) p.2) ∙ e) in
              (q.0, Contains-append_left low high q.0 q.1, omega (arith, q.2, p.2))
          | inr past ↦
              let back : (m - high_bit) + high_bit ≡ m = omega arith in
              let e2 = ap (λ n. signed valid (fs ++ f ∷ []) n c) back ∙ e in
              let parts = and_parts (signed valid fs (m - high_bit) c) (f c) (sym (signed-high valid fs f c (m - high_bit) (omega (arith, longer))) ∙ e2) in
              let p = known.all (m - high_bit) (c, parts.0) in
              let q = h.all p.0 p.1 (c, ap (λ g. g c) (sym (high_of p.0 p.1) ∙ ap (λ n. signed valid (fs ++ f ∷ []) (n + high_bit)) p.2) ∙ e2) in
              (q.0, Contains-append_right low high q.0 q.1, omega (arith, q.2, p.2))
        ];
  }

-- ---- one further condition, pattern by pattern

-- the patterns before the k-th are joined with the condition
pub record JoinedSoFar (cond : Meaning) (bit : ℕ) (ps : List Pattern) (k : ℕ) (old t : Table) (found : List Pattern) : Type 0 where
  pub progress : Progress (flat_map (λ p. both (value p.cond) cond ∷ []) (take k ps)) old t
  pub joined : AreJoinedWith t cond bit (take k ps) found

pub joined-init : (cond : Meaning) (bit : ℕ) (ps : List Pattern) (t : Table) → IsSound t → JoinedSoFar cond bit ps 0 t t []
joined-init cond bit ps t sound = record {
  progress = progress-none t sound;
  joined = record {
    order = λ i j d lt in_j. absurd (omega arith);
    each = λ q at. absurd (let lt : at.0 < 0 = at.1 in omega arith);
    all = λ p at. absurd (let lt : at.0 < 0 = at.1 in omega arith);
  };
}

module _ (cond : Meaning) (bit : ℕ) (ps : List Pattern) (rising : AreRising ps) (k : ℕ) (p : Pattern) (lt : k < length ps) (at : p ≡ get_or ps k p) (old t : Table) (joined : List Pattern) (s : JoinedSoFar cond bit ps k old t joined) where
  taken : take (k + 1) ps ≡ take k ps ++ p ∷ []
  taken = take_more ps k p lt ∙ λ i. take k ps ++ sym at i ∷ []

  -- an earlier pattern has a lesser mask
  earlier : (q : Pattern) → Contains (take k ps) q → q.mask < p.mask
  earlier q (i, in_take, e) =
      let i_lt : i < k = omega (arith, length-take k ps) in
      let is : get_or ps i q ≡ q = sym (get_or-take k ps i q i_lt) ∙ e in
      let here : get_or ps k q ≡ p = get_or_default ps k q p lt ∙ sym at in
      subst (λ (x : Pattern). x.mask < p.mask) is (subst (λ (y : Pattern). (get_or ps i q).mask < y.mask) here (rising i k q i_lt lt))

  module _ (u : Table) (x : Cond) (w : Works (both (value p.cond) cond ∷ []) t u (Ok x)) where
    kept : (q r : Pattern) → IsJoinedWith t cond bit q r → IsJoinedWith u cond bit q r
    kept q r j = record { mask = j.mask; has = w.keeps r.cond j.has; is = j.is; some = j.some }

    -- an element of the patterns so far, with this one
    cases : (q : Pattern) → Contains (take (k + 1) ps) q → Contains (take k ps) q ⊎ (p ≡ q)
    cases q at_q = Contains-push_cases (take k ps) p q (subst (λ (l : List Pattern). Contains l q) taken at_q)

    more : (q : Pattern) → Contains (take k ps) q → Contains (take (k + 1) ps) q
    more q at_q = subst (λ (l : List Pattern). Contains l q) (sym taken) (Contains-append_left (take k ps) (p ∷ []) q at_q)

    here : Contains (take (k + 1) ps) p
    here = subst (λ (l : List Pattern). Contains l p) (sym taken) (Contains-push (take k ps) p)

    pub joined-skip : AreSame (value x) (both (value p.cond) cond) → IsNever (value x) → JoinedSoFar cond bit ps (k + 1) old u joined
    joined-skip is never = record {
      progress = step-next (λ q. both (value q.cond) cond ∷ []) ps k p lt at old t u x s.progress w;
      joined = record {
        order = s.joined.order;
        each = λ r at_r. let q = s.joined.each r at_r in (q.0, more q.0 q.1, kept q.0 r q.2);
        all = λ q at_q (c, holds). elim (cases q at_q) [
          | inl before ↦ s.joined.all q before (c, holds)
          | inr e ↦ absurd (true≢false (sym holds ∙ ap (λ (y : Pattern). both (value y.cond) cond c) (sym e) ∙ sym (is c) ∙ never c))
        ];
      };
    }

    abbrev new : Pattern
    new = record { mask = p.mask + bit; cond = x }

    pub joined-push : Has u x → AreSame (value x) (both (value p.cond) cond) → IsPossible (value x) → JoinedSoFar cond bit ps (k + 1) old u (joined ++ record { mask = p.mask + bit; cond = x } ∷ [])
    joined-push has is some = record {
      progress = step-next (λ q. both (value q.cond) cond ∷ []) ps k p lt at old t u x s.progress w;
      joined = record {
        order = all_pairs_push rises joined new s.joined.order
            (λ i d i_lt.
            let q = s.joined.each (get_or joined i d) (i, i_lt, get_or_default joined i (get_or joined i d) d i_lt) in
            omega (arith, q.2.mask, earlier q.0 q.1));
        each = λ r at_r. elim (Contains-push_cases joined new r at_r) [
          | inl before ↦ let q = s.joined.each r before in (q.0, more q.0 q.1, kept q.0 r q.2)
          | inr e ↦ (p, here, subst (λ (y : Pattern). IsJoinedWith u cond bit p y) e (record { mask = refl; has = has; is = is; some = some }))
        ];
        all = λ q at_q possible. elim (cases q at_q) [
          | inl before ↦ let r = s.joined.all q before possible in (r.0, Contains-append_left joined (new ∷ []) r.0 r.1, r.2)
          | inr e ↦ (new, Contains-push joined new, ap (λ (y : Pattern). y.mask + bit) e)
        ];
      };
    }
