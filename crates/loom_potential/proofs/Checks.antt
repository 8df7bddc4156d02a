-- How a check of a list goes on from the elements that passed.
use Rattle.std.proofs.Common.{ℕ, zero, suc, ◌≡◌, ◌+◌, ◌-◌, ◌<◌, ◌≤◌, List, [], ◌∷◌, ◌++◌, Bool, true, false, Ok, Err, inl, inr, refl, sym, ap, ◌∙◌, arith, add-zero}
use Rattle.std.specs.List.{filter, range_with_len}
use Rattle.std.proofs.lemmas.Bool.{cases_Bool, cases_eq, both_ways}
use Rattle.std.proofs.lemmas.List.Elements.{filter-append}
use Rattle.loom_base.specs.First.{Check, ◌>>◌, every}
use Rattle.loom_base.proofs.EachLemmas.{then_fails, then_passes, then-parts, every-push, every-stop}

-- three checks in a row
pub all_pass : {F : Type 0} (a b c : Check F) → a ≡ Ok tt → b ≡ Ok tt → c ≡ Ok tt → (a >> b >> c) ≡ Ok tt
all_pass a b c one two three = then_passes a (b >> c) one ∙ (then_passes b c two ∙ three)

pub second_fails : {F : Type 0} (a b c : Check F) (e : F) → a ≡ Ok tt → b ≡ Err e → (a >> b >> c) ≡ Err e
second_fails a b c e one two = then_passes a (b >> c) one ∙ then_fails b c e two

pub third_fails : {F : Type 0} (a b c : Check F) (e : F) → a ≡ Ok tt → b ≡ Ok tt → c ≡ Err e → (a >> b >> c) ≡ Err e
third_fails a b c e one two three = then_passes a (b >> c) one ∙ (then_passes b c two ∙ three)

-- numbers in a row
range-append : (a m n : ℕ) → range_with_len a (m + n) ≡ range_with_len a m ++ range_with_len (a + m) n
range-append a zero n =
    let e : 0 + n ≡ n = omega arith in
    ap (range_with_len a) e ∙ ap (λ b. range_with_len b n) (sym (add-zero a))
range-append a (suc m) n =
    let e : suc m + n ≡ suc (m + n) = omega arith in
    let f : (a + 1) + m ≡ a + suc m = omega arith in
    ap (range_with_len a) e ∙ (ap (λ l. a ∷ l) (range-append (a + 1) m n) ∙ ap (λ b. (a ∷ range_with_len (a + 1) m) ++ range_with_len b n) f)

range-parted : (a n m j : ℕ) → a + n ≡ j → n < m → range_with_len a m ≡ range_with_len a n ++ j ∷ range_with_len (j + 1) (m - n - 1)
range-parted a n m j at below =
    let e : m ≡ n + suc (m - n - 1) = omega arith in
    ap (range_with_len a) e ∙ (range-append a n (suc (m - n - 1)) ∙ ap (λ b. range_with_len a n ++ range_with_len b (suc (m - n - 1))) at)

pub every-range_next : {F : Type 0} (check : ℕ → Check F) (a n j : ℕ) → a + n ≡ j → every check (range_with_len a n) ≡ Ok tt
    → check j ≡ Ok tt → every check (range_with_len a (n + 1)) ≡ Ok tt
every-range_next check a n j at front here =
    let none : n + 1 - n - 1 ≡ 0 = omega arith in
    ap (every check) (range-parted a n (n + 1) j at (omega arith) ∙ ap (λ k. range_with_len a n ++ j ∷ range_with_len (j + 1) k) none)
    ∙ every-push check (range_with_len a n) j front here

pub every-range_stops : {F : Type 0} (check : ℕ → Check F) (a n m j : ℕ) (e : F) → a + n ≡ j → n < m
    → every check (range_with_len a n) ≡ Ok tt → check j ≡ Err e → every check (range_with_len a m) ≡ Err e
every-range_stops check a n m j e at below front here =
    ap (every check) (range-parted a n m j at below)
    ∙ every-stop check (range_with_len a n) j (range_with_len (j + 1) (m - n - 1)) e front here

-- numbers in a row that pass a test
filter-none : (p : ℕ → Bool) (a n : ℕ) → ((k : ℕ) → a ≤ k → k < a + n → p k ≡ false) → filter p (range_with_len a n) ≡ []
filter-none p a zero none = refl
filter-none p a (suc n) none =
    let rest : filter p (range_with_len (a + 1) n) ≡ [] =
    filter-none p (a + 1) n (λ k from to. none k (omega arith) (omega arith)) in
    let here : p a ≡ false = none a (omega arith) (omega arith) in
    rw (here, rest) refl

filter-parted : (p : ℕ → Bool) (a n m j : ℕ) → a + n ≡ j → n < m → p j ≡ true
    → filter p (range_with_len a m) ≡ filter p (range_with_len a n) ++ j ∷ filter p (range_with_len (j + 1) (m - n - 1))
filter-parted p a n m j at below holds =
    ap (filter p) (range-parted a n m j at below)
    ∙ (filter-append p (range_with_len a n) (j ∷ range_with_len (j + 1) (m - n - 1)) ∙ rw holds refl)

module _ {F : Type 0} (check : ℕ → Check F) (p : ℕ → Bool) where
  -- those before j, counted from 1, have passed
  abbrev pub Passed : ℕ → Type 0
  Passed j = every check (filter p (range_with_len 1 (j - 1))) ≡ Ok tt

  none_before : (a j k : ℕ) → ((later : ℕ) → a < later → p later ≡ true → j ≤ later) → a < k → k < j → p k ≡ false
  none_before a j k least above below =
      elim (cases_Bool (p k)) [
        | inr fails ↦ fails
        | inl holds ↦ let past : j ≤ k = least k above holds in absurd (omega arith)
      ]

  pub passed-first : (j : ℕ) → ((later : ℕ) → p later ≡ true → j ≤ later) → Passed j
  passed-first j least =
      ap (every check) (filter-none p 1 (j - 1) (λ k from to. none_before 0 j k (λ later above. least later) (omega arith) (omega arith)))

  pub passed-next : (i j : ℕ) → 1 ≤ i → i < j → p i ≡ true → ((later : ℕ) → i < later → p later ≡ true → j ≤ later)
      → Passed i → check i ≡ Ok tt → Passed j
  passed-next i j from below holds least front here =
      let rest : filter p (range_with_len (i + 1) (j - 1 - (i - 1) - 1)) ≡ [] =
      filter-none p (i + 1) (j - 1 - (i - 1) - 1) (λ k low high. none_before i j k least (omega arith) (omega arith)) in
      ap (every check) (filter-parted p 1 (i - 1) (j - 1) i (omega arith) (omega arith) holds
      ∙ ap (λ l. filter p (range_with_len 1 (i - 1)) ++ i ∷ l) rest)
      ∙ every-push check (filter p (range_with_len 1 (i - 1))) i front here

  pub passed-stops : (i m : ℕ) (e : F) → 1 ≤ i → i < m → p i ≡ true → Passed i → check i ≡ Err e
      → every check (filter p (range_with_len 1 (m - 1))) ≡ Err e
  passed-stops i m e from below holds front here =
      ap (every check) (filter-parted p 1 (i - 1) (m - 1) i (omega arith) (omega arith) holds)
      ∙ every-stop check (filter p (range_with_len 1 (i - 1))) i (filter p (range_with_len (i + 1) (m - 1 - (i - 1) - 1))) e front here

-- what passes, number by number
pub every_range-each : {F : Type 0} (check : ℕ → Check F) (a n : ℕ) → every check (range_with_len a n) ≡ Ok tt
    → (k : ℕ) → a ≤ k → k < a + n → check k ≡ Ok tt
every_range-each check a zero passed k from to = absurd (omega arith)
every_range-each check a (suc n) passed k from to =
    let parts = then-parts (check a) (every check (range_with_len (a + 1) n)) tt passed in
    elim (cases_eq k a) [
      | inl e ↦ rw e parts.0
      | inr other ↦ every_range-each check (a + 1) n parts.1 k (omega arith) (omega arith)
    ]

pub every_range-from_each : {F : Type 0} (check : ℕ → Check F) (a n : ℕ) → ((k : ℕ) → a ≤ k → k < a + n → check k ≡ Ok tt)
    → every check (range_with_len a n) ≡ Ok tt
every_range-from_each check a zero each = refl
every_range-from_each check a (suc n) each =
    then_passes (check a) (every check (range_with_len (a + 1) n)) (each a (omega arith) (omega arith))
    ∙ every_range-from_each check (a + 1) n (λ k from to. each k (omega arith) (omega arith))

-- the same of those that pass a test
filter-yes : (p : ℕ → Bool) (a : ℕ) (rest : List ℕ) → p a ≡ true → filter p (a ∷ rest) ≡ a ∷ filter p rest
filter-yes p a rest holds = rw holds refl

filter-no : (p : ℕ → Bool) (a : ℕ) (rest : List ℕ) → p a ≡ false → filter p (a ∷ rest) ≡ filter p rest
filter-no p a rest fails = rw fails refl

pub every_filter-each : {F : Type 0} (check : ℕ → Check F) (p : ℕ → Bool) (a n : ℕ) → every check (filter p (range_with_len a n)) ≡ Ok tt
    → (k : ℕ) → a ≤ k → k < a + n → p k ≡ true → check k ≡ Ok tt
every_filter-each check p a zero passed k from to holds = absurd (omega arith)
every_filter-each check p a (suc n) passed k from to holds =
    elim (cases_Bool (p a)) [
      | inl held ↦
          let parts = then-parts (check a) (every check (filter p (range_with_len (a + 1) n))) tt
          (ap (every check) (sym (filter-yes p a (range_with_len (a + 1) n) held)) ∙ passed) in
          elim (cases_eq k a) [
            | inl e ↦ rw e parts.0
            | inr other ↦ every_filter-each check p (a + 1) n parts.1 k (omega arith) (omega arith) holds
          ]
      | inr lacks ↦ elim (cases_eq k a) [
        | inl e ↦ absurd (both_ways (p a) lacks (ap p (sym e) ∙ holds))
        | inr other ↦
            every_filter-each check p (a + 1) n (ap (every check) (sym (filter-no p a (range_with_len (a + 1) n) lacks)) ∙ passed) k
            (omega arith) (omega arith) holds
      ]
    ]

pub every_filter-from_each : {F : Type 0} (check : ℕ → Check F) (p : ℕ → Bool) (a n : ℕ)
    → ((k : ℕ) → a ≤ k → k < a + n → p k ≡ true → check k ≡ Ok tt) → every check (filter p (range_with_len a n)) ≡ Ok tt
every_filter-from_each check p a zero each = refl
every_filter-from_each check p a (suc n) each =
    elim (cases_Bool (p a)) [
      | inl held ↦
          ap (every check) (filter-yes p a (range_with_len (a + 1) n) held)
          ∙ (then_passes (check a) (every check (filter p (range_with_len (a + 1) n))) (each a (omega arith) (omega arith) held)
          ∙ every_filter-from_each check p (a + 1) n (λ k from to. each k (omega arith) (omega arith)))
      | inr lacks ↦
          ap (every check) (filter-no p a (range_with_len (a + 1) n) lacks)
          ∙ every_filter-from_each check p (a + 1) n (λ k from to. each k (omega arith) (omega arith))
    ]
