-- Conditions that stand in a list of rows: on which options they depend, and that a number fixes a value and a value a number.
use Rattle.std.proofs.Common.{◌≡◌, ℕ, zero, suc, ◌+◌, ◌-◌, ◌<◌, ◌≤◌, ◌⊎◌, inl, inr, Bool, true, false, cond, List, [], ◌∷◌, ◌++◌, length, Some, slice_get, refl, sym, ap, subst, ◌∙◌, arith, if◌then◌else◌, ◌==◌}
use Rattle.std.proofs.lemmas.Bool.{cases_eq, eq-eqb, ne_eqb, lt-ltb, le-ltb, cases_lt, false≢true, true≢false}
use Rattle.std.proofs.lemmas.Option.{slice_get_within, same_Some}
use Rattle.loom_base.specs.declared.positions.OptionNo.{OptionNo}
use Rattle.loom_rows.specs.declared.cond.Cond.{Cond, Never, Always, Row'}
use Rattle.loom_rows.specs.Condition.{Meaning, value, number_of, first_option, low_at, high_at}
use Rattle.loom_rows.specs.Table.{Triple, IsRowAt, StandsIn}
use Rattle.loom_rows.specs.Leftovers.{set_before, AreSame}

-- conditions that no choice tells apart are one function
pub same : {f g : Meaning} → AreSame f g → f ≡ g
same h = λ i c. h c i

-- the two choices agree from the option k on
abbrev pub AgreeFrom : ℕ → (ℕ → Bool) → (ℕ → Bool) → Type 0
AgreeFrom k c d = (option : ℕ) → k ≤ option → c option ≡ d option

pub set_before-in : (k : ℕ) (c d : ℕ → Bool) (option : ℕ) → option < k → set_before k c d option ≡ c option
set_before-in k c d option lt = ap (λ b. if b then c option else d option) (lt-ltb option k lt)

pub set_before-past : (k : ℕ) (c d : ℕ → Bool) (option : ℕ) → k ≤ option → set_before k c d option ≡ d option
set_before-past k c d option le = ap (λ b. if b then c option else d option) (le-ltb option k le)

pub cond_same : {A : Type 0} (b : Bool) (x : A) → cond b x x ≡ x
cond_same true x = refl
cond_same false x = refl

pub slice_get-append_left : {A : Type 0} (xs ys : List A) (i : ℕ) → i < length xs → slice_get (xs ++ ys) i ≡ slice_get xs i
slice_get-append_left [] ys i h = absurd (omega arith)
slice_get-append_left (x ∷ xs) ys zero h = refl
slice_get-append_left (x ∷ xs) ys (suc i) h = slice_get-append_left xs ys i (omega arith)

module _ (options : ℕ) (rows : List Triple) where
  pub first_option-le : (x : Cond) → StandsIn options rows x → first_option options x ≤ options
  first_option-le Never h = omega arith
  first_option-le Always h = omega arith
  first_option-le (Row' p n o low high) h = omega (arith, h.0.low_rises, first_option-le low h.1)

  -- a condition depends on no option before its first
  pub value-from : (x : Cond) → StandsIn options rows x → (k : ℕ) → k ≤ first_option options x → (c d : ℕ → Bool) → AgreeFrom k c d → value x c ≡ value x d
  value-from Never h k le c d ag = refl
  value-from Always h k le c d ag = refl
  value-from (Row' p n o low high) h k le c d ag =
      let e = ag o.0 le in
      let l = value-from low h.1 k (omega (arith, h.0.low_rises)) c d ag in
      let r = value-from high h.2 k (omega (arith, h.0.high_rises)) c d ag in
      λ i. if e i then r i else l i

  -- a condition branches at an option or stays as it is there
  pub cases_at : (at : ℕ) (x : Cond) → StandsIn options rows x → ((low_at at x ≡ x) × (high_at at x ≡ x)) ⊎ IsRowAt options rows (number_of x) at (low_at at x) (high_at at x)
  cases_at at Never h = inl (refl, refl)
  cases_at at Always h = inl (refl, refl)
  cases_at at (Row' p n o low high) h =
      elim (cases_eq o.0 at) [
        | inl e ↦
            let t = eq-eqb o.0 at e in
            inr (subst (λ (b : Bool). IsRowAt options rows n at (if b then low else Row' p n o low high) (if b then high else Row' p n o low high)) (sym t) (subst (λ (k : ℕ). IsRowAt options rows n k low high) e h.0))
        | inr ne ↦
            let t = ne_eqb o.0 at ne in
            inl (ap (λ b. if b then low else Row' p n o low high) t, ap (λ b. if b then high else Row' p n o low high) t)
      ]

  pub low_at-stands : (at : ℕ) (x : Cond) → StandsIn options rows x → StandsIn options rows (low_at at x)
  low_at-stands at Never h = tt
  low_at-stands at Always h = tt
  low_at-stands at (Row' p n o low high) h = elim (o.0 == at) as (λ b. StandsIn options rows (if b then low else Row' p n o low high)) [ true ↦ h.1 | false ↦ h ]

  pub high_at-stands : (at : ℕ) (x : Cond) → StandsIn options rows x → StandsIn options rows (high_at at x)
  high_at-stands at Never h = tt
  high_at-stands at Always h = tt
  high_at-stands at (Row' p n o low high) h = elim (o.0 == at) as (λ b. StandsIn options rows (if b then high else Row' p n o low high)) [ true ↦ h.2 | false ↦ h ]

  -- the parts at an option depend on later ones alone
  pub low_at-rises : (at : ℕ) (x : Cond) → StandsIn options rows x → at ≤ first_option options x → at < options → at < first_option options (low_at at x)
  low_at-rises at Never h le lt = lt
  low_at-rises at Always h le lt = lt
  low_at-rises at (Row' p n o low high) h le lt =
      elim (cases_eq o.0 at) [
        | inl e ↦ subst (λ (b : Bool). at < first_option options (if b then low else Row' p n o low high)) (sym (eq-eqb o.0 at e)) (omega (arith, h.0.low_rises))
        | inr ne ↦ subst (λ (b : Bool). at < first_option options (if b then low else Row' p n o low high)) (sym (ne_eqb o.0 at ne)) (omega arith)
      ]

  pub high_at-rises : (at : ℕ) (x : Cond) → StandsIn options rows x → at ≤ first_option options x → at < options → at < first_option options (high_at at x)
  high_at-rises at Never h le lt = lt
  high_at-rises at Always h le lt = lt
  high_at-rises at (Row' p n o low high) h le lt =
      elim (cases_eq o.0 at) [
        | inl e ↦ subst (λ (b : Bool). at < first_option options (if b then high else Row' p n o low high)) (sym (eq-eqb o.0 at e)) (omega (arith, h.0.high_rises))
        | inr ne ↦ subst (λ (b : Bool). at < first_option options (if b then high else Row' p n o low high)) (sym (ne_eqb o.0 at ne)) (omega arith)
      ]

  -- a condition has the value of the part that an option chooses
  pub value-split : (at : ℕ) (x : Cond) (c : ℕ → Bool) → value x c ≡ cond (c at) (value (high_at at x) c) (value (low_at at x) c)
  value-split at Never c = sym (cond_same (c at) false)
  value-split at Always c = sym (cond_same (c at) true)
  value-split at (Row' p n o low high) c =
      elim (cases_eq o.0 at) [
        | inl e ↦
            ap (λ k. if c k then value high c else value low c) e
            ∙ ap (λ b. cond (c at) (value (if b then high else Row' p n o low high) c) (value (if b then low else Row' p n o low high) c)) (sym (eq-eqb o.0 at e))
        | inr ne ↦
            sym (cond_same (c at) (value (Row' p n o low high) c))
            ∙ ap (λ b. cond (c at) (value (if b then high else Row' p n o low high) c) (value (if b then low else Row' p n o low high) c)) (sym (ne_eqb o.0 at ne))
      ]

  -- the part at an option is the condition once the option is set
  pub low_at-value : (at : ℕ) (x : Cond) → StandsIn options rows x → at ≤ first_option options x → at < options → (d : ℕ → Bool) → value (low_at at x) d ≡ value x (set_before (at + 1) (λ _. false) d)
  low_at-value at x h le lt d =
      let s = set_before (at + 1) (λ _. false) d in
      let here = set_before-in (at + 1) (λ _. false) d at (omega arith) in
      value-from (low_at at x) (low_at-stands at x h) (at + 1) (omega (arith, low_at-rises at x h le lt)) d s (λ k p. sym (set_before-past (at + 1) (λ _. false) d k p))
      ∙ sym (value-split at x s ∙ ap (λ b. cond b (value (high_at at x) s) (value (low_at at x) s)) here)

  pub high_at-value : (at : ℕ) (x : Cond) → StandsIn options rows x → at ≤ first_option options x → at < options → (d : ℕ → Bool) → value (high_at at x) d ≡ value x (set_before (at + 1) (λ _. true) d)
  high_at-value at x h le lt d =
      let s = set_before (at + 1) (λ _. true) d in
      let here = set_before-in (at + 1) (λ _. true) d at (omega arith) in
      value-from (high_at at x) (high_at-stands at x h) (at + 1) (omega (arith, high_at-rises at x h le lt)) d s (λ k p. sym (set_before-past (at + 1) (λ _. true) d k p))
      ∙ sym (value-split at x s ∙ ap (λ b. cond b (value (high_at at x) s) (value (low_at at x) s)) here)

  -- a number from 2 on is a row's
  pub number-end : (x y : Cond) → StandsIn options rows x → StandsIn options rows y → number_of x < 2 → number_of x ≡ number_of y → x ≡ y
  number-end Never Never h k lt e = refl
  number-end Never Always h k lt e = absurd (omega arith)
  number-end Never (Row' p n o low high) h k lt e = absurd (omega (arith, k.0.numbered))
  number-end Always Never h k lt e = absurd (omega arith)
  number-end Always Always h k lt e = refl
  number-end Always (Row' p n o low high) h k lt e = absurd (omega (arith, k.0.numbered))
  number-end (Row' p n o low high) y h k lt e = absurd (omega (arith, h.0.numbered))

  -- conditions of one number have one option and parts of one number
  abbrev pub Alike : ℕ → Cond → Cond → ℕ → Cond → Cond → Type 0
  Alike o low high q lo hi = (o ≡ q) × (number_of low ≡ number_of lo) × (number_of high ≡ number_of hi)

  pub alike : (n m o q : ℕ) (low high lo hi : Cond) → IsRowAt options rows n o low high → IsRowAt options rows m q lo hi → n ≡ m → Alike o low high q lo hi
  alike n m o q low high lo hi h k e =
      let w = same_Some (o, number_of low, number_of high) (q, number_of lo, number_of hi) (sym h.written ∙ ap (λ j. slice_get rows (j - 2)) e ∙ k.written) in
      (ap (λ t. t.0) w, ap (λ t. t.1) w, ap (λ t. t.2) w)

  -- conditions of one number have one value
  pub same_value : (x y : Cond) → StandsIn options rows x → StandsIn options rows y → number_of x ≡ number_of y → value x ≡ value y
  same_value Never y h k e = ap value (number-end Never y h k (omega arith) e)
  same_value Always y h k e = ap value (number-end Always y h k (omega arith) e)
  same_value (Row' p n o low high) Never h k e = absurd (omega (arith, h.0.numbered))
  same_value (Row' p n o low high) Always h k e = absurd (omega (arith, h.0.numbered))
  same_value (Row' p n o low high) (Row' q m u lo hi) h k e =
      let a = alike n m o.0 u.0 low high lo hi h.0 k.0 e in
      let l = same_value low lo h.1 k.1 a.1 in
      let r = same_value high hi h.2 k.2 a.2 in
      λ i c. if c (a.0 i) then r i c else l i c

  pub same_first_option : (x y : Cond) → StandsIn options rows x → StandsIn options rows y → number_of x ≡ number_of y → first_option options x ≡ first_option options y
  same_first_option Never y h k e = ap (first_option options) (number-end Never y h k (omega arith) e)
  same_first_option Always y h k e = ap (first_option options) (number-end Always y h k (omega arith) e)
  same_first_option (Row' p n o low high) Never h k e = absurd (omega (arith, h.0.numbered))
  same_first_option (Row' p n o low high) Always h k e = absurd (omega (arith, h.0.numbered))
  same_first_option (Row' p n o low high) (Row' q m u lo hi) h k e = (alike n m o.0 u.0 low high lo hi h.0 k.0 e).0

  -- ends of one value have one number
  pub same_end : (x y : Cond) → StandsIn options rows x → StandsIn options rows y → options ≤ first_option options x → options ≤ first_option options y → value x ≡ value y → number_of x ≡ number_of y
  same_end Never Never h k p q e = refl
  same_end Never Always h k p q e = absurd (false≢true (ap (λ f. f (λ _. false)) e))
  same_end Always Never h k p q e = absurd (true≢false (ap (λ f. f (λ _. false)) e))
  same_end Always Always h k p q e = refl
  same_end (Row' p n o low high) y h k le q e = absurd (omega (arith, h.0.low_rises, first_option-le low h.1))
  same_end Never (Row' p n o low high) h k q le e = absurd (omega (arith, k.0.low_rises, first_option-le low k.1))
  same_end Always (Row' p n o low high) h k q le e = absurd (omega (arith, k.0.low_rises, first_option-le low k.1))

  module _ (distinct : (i j : ℕ) (row : Triple) → slice_get rows i ≡ Some row → slice_get rows j ≡ Some row → i ≡ j) where
    -- conditions whose parts at an option have the same numbers have one number
    pub same_parts : (at : ℕ) (x y : Cond) → StandsIn options rows x → StandsIn options rows y
        → number_of (low_at at x) ≡ number_of (low_at at y) → number_of (high_at at x) ≡ number_of (high_at at y) → number_of x ≡ number_of y
    same_parts at x y h k l r =
        elim (cases_at at x h) [
          | inl a ↦ elim (cases_at at y k) [
            | inl b ↦ sym (ap number_of a.0) ∙ l ∙ ap number_of b.0
            | inr b ↦ absurd (b.apart (sym l ∙ ap number_of a.0 ∙ sym (ap number_of a.1) ∙ r))
          ]
          | inr a ↦ elim (cases_at at y k) [
            | inl b ↦ absurd (a.apart (l ∙ ap number_of b.0 ∙ sym (ap number_of b.1) ∙ sym r))
            | inr b ↦
                let w = distinct (number_of x - 2) (number_of y - 2) _ a.written (b.written ∙ sym (λ i. Some (at, l i, r i))) in
                omega (arith, a.numbered, b.numbered)
          ]
        ]

    -- conditions of one value have one number
    pub same_number-from : (steps at : ℕ) → options ≤ at + steps → (x y : Cond) → StandsIn options rows x → StandsIn options rows y
        → at ≤ first_option options x → at ≤ first_option options y → value x ≡ value y → number_of x ≡ number_of y
    same_number-from zero at past x y h k p q e = same_end x y h k (omega arith) (omega arith) e
    same_number-from (suc steps) at past x y h k p q e =
        elim (cases_lt at options) [
          | inr over ↦ same_end x y h k (omega arith) (omega arith) e
          | inl lt ↦
              let l = same (λ d. low_at-value at x h p lt d ∙ ap (λ f. f (set_before (at + 1) (λ _. false) d)) e ∙ sym (low_at-value at y k q lt d)) in
              let r = same (λ d. high_at-value at x h p lt d ∙ ap (λ f. f (set_before (at + 1) (λ _. true) d)) e ∙ sym (high_at-value at y k q lt d)) in
              same_parts at x y h k
              (same_number-from steps (at + 1) (omega arith) (low_at at x) (low_at at y) (low_at-stands at x h) (low_at-stands at y k) (omega (arith, low_at-rises at x h p lt)) (omega (arith, low_at-rises at y k q lt)) l)
              (same_number-from steps (at + 1) (omega arith) (high_at at x) (high_at at y) (high_at-stands at x h) (high_at-stands at y k) (omega (arith, high_at-rises at x h p lt)) (omega (arith, high_at-rises at y k q lt)) r)
        ]

    pub same_number : (x y : Cond) → StandsIn options rows x → StandsIn options rows y → value x ≡ value y → number_of x ≡ number_of y
    same_number x y h k e = same_number-from options 0 (omega arith) x y h k (omega arith) (omega arith) e

  -- what is left of a condition once the options before the k-th are set is a condition of the rows
  abbrev pub LeftStands : Cond → ℕ → (ℕ → Bool) → Type 0
  LeftStands x k c = (y : Cond) × StandsIn options rows y × AreSame (λ d. value x (set_before k c d)) (value y)

  left-branch : (p : _) (n : ℕ) (o : OptionNo) (low high : Cond) (k : ℕ) (c : ℕ → Bool) → o.0 < k → (b : Bool) → c o.0 ≡ b → LeftStands low k c → LeftStands high k c → LeftStands (Row' p n o low high) k c
  left-branch p n o low high k c lt true e l r = (r.0, r.1, λ d. ap (λ b. if b then value high (set_before k c d) else value low (set_before k c d)) (set_before-in k c d o.0 lt ∙ e) ∙ r.2 d)
  left-branch p n o low high k c lt false e l r = (l.0, l.1, λ d. ap (λ b. if b then value high (set_before k c d) else value low (set_before k c d)) (set_before-in k c d o.0 lt ∙ e) ∙ l.2 d)

  pub leftover-stands : (x : Cond) → StandsIn options rows x → (k : ℕ) (c : ℕ → Bool) → LeftStands x k c
  leftover-stands Never h k c = (Never, tt, λ d. refl)
  leftover-stands Always h k c = (Always, tt, λ d. refl)
  leftover-stands (Row' p n o low high) h k c =
      elim (cases_lt o.0 k) [
        | inr le ↦ (Row' p n o low high, h, λ d. value-from (Row' p n o low high) h k le (set_before k c d) d (λ j q. set_before-past k c d j q))
        | inl lt ↦ left-branch p n o low high k c lt (c o.0) refl (leftover-stands low h.1 k c) (leftover-stands high h.2 k c)
      ]

  -- a condition that is the same under choices that agree from an option on has no earlier option
  module _ (distinct : (i j : ℕ) (row : Triple) → slice_get rows i ≡ Some row → slice_get rows j ≡ Some row → i ≡ j) where
    pub first_option-from : (x : Cond) → StandsIn options rows x → (at : ℕ) → at ≤ options → ((c d : ℕ → Bool) → AgreeFrom at c d → value x c ≡ value x d) → at ≤ first_option options x
    first_option-from Never h at le same_from = le
    first_option-from Always h at le same_from = le
    first_option-from (Row' p n o low high) h at le same_from =
        let x = Row' p n o low high in
        elim (cases_lt o.0 at) [
          | inr ge ↦ ge
          | inl lt ↦
              let in_range : o.0 < options = omega (arith, h.0.low_rises, first_option-le low h.1) in
              let l = low_at-value o.0 x h (omega arith) in_range in
              let r = high_at-value o.0 x h (omega arith) in_range in
              let t = eq-eqb o.0 o.0 refl in
              let e : value low ≡ value high = same (λ d.
              sym (ap (λ b. value (if b then low else x) d) t) ∙ l d
              ∙ same_from (set_before (o.0 + 1) (λ _. false) d) (set_before (o.0 + 1) (λ _. true) d) (λ k q. set_before-past (o.0 + 1) (λ _. false) d k (omega arith) ∙ sym (set_before-past (o.0 + 1) (λ _. true) d k (omega arith)))
              ∙ sym (r d) ∙ ap (λ b. value (if b then high else x) d) t) in
              absurd (h.0.apart (same_number distinct low high h.1 h.2 e))
        ]

  -- a condition's number is among the rows'
  pub number-below : (x : Cond) → StandsIn options rows x → number_of x < length rows + 2
  number-below Never h = omega arith
  number-below Always h = omega arith
  number-below (Row' p n o low high) h = omega (arith, h.0.numbered, slice_get_within rows (n - 2) _ h.0.written)

  -- a row's option is one of the options
  pub first_option-lt : (x : Cond) → StandsIn options rows x → 2 ≤ number_of x → first_option options x < options
  first_option-lt Never h le = absurd (omega arith)
  first_option-lt Always h le = absurd (omega arith)
  first_option-lt (Row' p n o low high) h le = omega (arith, h.0.low_rises, first_option-le low h.1)

-- more rows take no condition away
pub stands-append : (options : ℕ) (rows more : List Triple) (x : Cond) → StandsIn options rows x → StandsIn options (rows ++ more) x
stands-append options rows more Never h = tt
stands-append options rows more Always h = tt
stands-append options rows more (Row' p n o low high) h = (
  record {
    numbered = h.0.numbered;
    written = slice_get-append_left rows more (n - 2) (slice_get_within rows (n - 2) _ h.0.written) ∙ h.0.written;
    apart = h.0.apart;
    low_before = h.0.low_before;
    high_before = h.0.high_before;
    low_rises = h.0.low_rises;
    high_rises = h.0.high_rises;
  },
  stands-append options rows more low h.1,
  stands-append options rows more high h.2,
)

-- and a condition with a number from before was there
pub stands-old : (options : ℕ) (rows more : List Triple) (x : Cond) → StandsIn options (rows ++ more) x → number_of x < length rows + 2 → StandsIn options rows x
stands-old options rows more Never h lt = tt
stands-old options rows more Always h lt = tt
stands-old options rows more (Row' p n o low high) h lt = (
  record {
    numbered = h.0.numbered;
    written = sym (slice_get-append_left rows more (n - 2) (omega (arith, h.0.numbered))) ∙ h.0.written;
    apart = h.0.apart;
    low_before = h.0.low_before;
    high_before = h.0.high_before;
    low_rises = h.0.low_rises;
    high_rises = h.0.high_rises;
  },
  stands-old options rows more low h.1 (omega (arith, h.0.low_before)),
  stands-old options rows more high h.2 (omega (arith, h.0.high_before)),
)
