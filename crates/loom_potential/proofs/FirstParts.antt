-- The parts of a mask that hold its first cavity.
use Rattle.std.proofs.Common.{ℕ, ◌≡◌, ◌≢◌, ◌+◌, ◌-◌, ◌*◌, ◌/◌, ◌%◌, ◌^◌, ◌<◌, ◌≤◌, ◌==◌, true, bit_and, max, sym, ap, ◌∙◌, subst, inl, inr, arith, pow_pos, zero-mul}
use Rattle.std.specs.Int.{bit_at, w32}
use Rattle.std.proofs.Math.Nat.{div-eq-sub-div}
use Rattle.std.proofs.Math.Pow.{pow-lt}
use Rattle.std.proofs.lemmas.Bool.{cases_eq, cases_lt, and_parts, and_from, eqb-true, eq-eqb}
use Rattle.std.proofs.lemmas.Nat.{or_disjoint, and_le_r}
use Rattle.std.proofs.lemmas.Nat.Bits.{and_pow, bit_at_or, bit_at-pow_same, bit_at-pow_other, bit_at_above, bit_at-trailing_zeros}
use Rattle.loom_potential.specs.FirstBreak.{first_bit, is_first_part}
use Rattle.loom_potential.proofs.Within.{within_bits, within_from_bits}

-- bit k comes to a number that hasn't it
with_bit-same : (y k : ℕ) → bit_at y k ≡ 0 → bit_at (y + 2 ^ k) k ≡ 1
with_bit-same y k none =
    let apart : bit_and y (2 ^ k) ≡ 0 = and_pow y k ∙ (ap (λ b. b * 2 ^ k) none ∙ zero-mul (2 ^ k)) in
    ap (λ n. bit_at n k) (sym (or_disjoint y (2 ^ k) apart)) ∙ (bit_at_or y (2 ^ k) k
    ∙ (ap (λ b. max b (bit_at (2 ^ k) k)) none ∙ ap (max 0) (bit_at-pow_same k)))

with_bit-other : (y k i : ℕ) → bit_at y k ≡ 0 → i ≢ k → bit_at (y + 2 ^ k) i ≡ bit_at y i
with_bit-other y k i none other =
    let apart : bit_and y (2 ^ k) ≡ 0 = and_pow y k ∙ (ap (λ b. b * 2 ^ k) none ∙ zero-mul (2 ^ k)) in
    ap (λ n. bit_at n i) (sym (or_disjoint y (2 ^ k) apart)) ∙ (bit_at_or y (2 ^ k) i
    ∙ (ap (max (bit_at y i)) (bit_at-pow_other k i other) ∙ max_zero (bit_at y i)))
  where
    max_zero : (n : ℕ) → max n 0 ≡ n
    max_zero n = omega arith

-- bit k goes from a number that has it
bit_le : (x k : ℕ) → bit_at x k ≡ 1 → 2 ^ k ≤ x
bit_le x k one =
    elim (cases_lt x (2 ^ k)) [
      | inr within ↦ within
      | inl below ↦ let none : bit_at x k ≡ 0 = bit_at_above x k k below (omega arith) in absurd (one_zero (bit_at x k) one none)
    ]
  where
    one_zero : (b : ℕ) → b ≡ 1 → b ≡ 0 → ⊥
    one_zero b one none = omega arith

without_bit-same : (x k : ℕ) → bit_at x k ≡ 1 → bit_at (x - 2 ^ k) k ≡ 0
without_bit-same x k one =
    even_before (x / 2 ^ k) ((x - 2 ^ k) / 2 ^ k) (div-eq-sub-div {m = 2 ^ k} {n = x} (pow_pos k) (bit_le x k one)) one
  where
    even_before : (a b : ℕ) → a ≡ b + 1 → a % 2 ≡ 1 → b % 2 ≡ 0
    even_before a b e odd = omega arith

without_bit-other : (x k i : ℕ) → bit_at x k ≡ 1 → i ≢ k → bit_at (x - 2 ^ k) i ≡ bit_at x i
without_bit-other x k i one other =
    let back : (x - 2 ^ k) + 2 ^ k ≡ x = omega (arith, bit_le x k one) in
    sym (with_bit-other (x - 2 ^ k) k i (without_bit-same x k one) other) ∙ ap (λ n. bit_at n i) back

-- the part stands within the mask and has bit k
pub record IsPart (mask k part : ℕ) : Type 0 where
  pub within : bit_and part mask ≡ part
  pub first : bit_at part k ≡ 1

module _ (mask k : ℕ) (one : bit_at mask k ≡ 1) where
  pub least_part : IsPart mask k (2 ^ k)
  least_part = record {
    within = within_from_bits (2 ^ k) mask (λ i.
        elim (cases_eq i k) [
          | inl e ↦ rw e (equal_le (bit_at (2 ^ k) k) (bit_at mask k) (bit_at-pow_same k) one)
          | inr other ↦ zero_le (bit_at (2 ^ k) i) (bit_at mask i) (bit_at-pow_other k i other)
        ]);
    first = bit_at-pow_same k;
  }
    where
      equal_le : (a b : ℕ) → a ≡ 1 → b ≡ 1 → a ≤ b
      equal_le a b e f = omega arith

      zero_le : (a b : ℕ) → a ≡ 0 → a ≤ b
      zero_le a b e = omega arith

  pub part_le : (part : ℕ) → IsPart mask k part → (2 ^ k ≤ part) × (part ≤ mask)
  part_le part is_part =
      (bit_le part k is_part.first, subst (λ n. n ≤ mask) is_part.within (and_le_r part mask))

  -- the others of a part stand within the others of the mask
  rest_within : (part : ℕ) → IsPart mask k part → bit_and (part - 2 ^ k) (mask - 2 ^ k) ≡ part - 2 ^ k
  rest_within part is_part = within_from_bits (part - 2 ^ k) (mask - 2 ^ k) (λ i.
      elim (cases_eq i k) [
        | inl e ↦ rw e (zero_le (bit_at (part - 2 ^ k) k) (bit_at (mask - 2 ^ k) k) (without_bit-same part k is_part.first))
        | inr other ↦
            same_le (bit_at (part - 2 ^ k) i) (bit_at (mask - 2 ^ k) i) (bit_at part i) (bit_at mask i)
            (without_bit-other part k i is_part.first other) (without_bit-other mask k i one other)
            (within_bits part mask is_part.within i)
      ])
    where
      zero_le : (a b : ℕ) → a ≡ 0 → a ≤ b
      zero_le a b e = omega arith

      same_le : (a b x y : ℕ) → a ≡ x → b ≡ y → x ≤ y → a ≤ b
      same_le a b x y e f h = omega arith

  -- and what stands within those makes a part
  part_with : (n : ℕ) → bit_and n (mask - 2 ^ k) ≡ n → IsPart mask k (n + 2 ^ k)
  part_with n within =
      let none : bit_at n k ≡ 0 =
      none_of (bit_at n k) (bit_at (mask - 2 ^ k) k) (within_bits n (mask - 2 ^ k) within k) (without_bit-same mask k one) in
      record {
        within = within_from_bits (n + 2 ^ k) mask (λ i.
            elim (cases_eq i k) [
              | inl e ↦ rw e (equal_le (bit_at (n + 2 ^ k) k) (bit_at mask k) (with_bit-same n k none) one)
              | inr other ↦
                  same_le (bit_at (n + 2 ^ k) i) (bit_at mask i) (bit_at n i) (bit_at (mask - 2 ^ k) i)
                  (with_bit-other n k i none other) (sym (without_bit-other mask k i one other))
                  (within_bits n (mask - 2 ^ k) within i)
            ]);
        first = with_bit-same n k none;
      }
    where
      none_of : (a b : ℕ) → a ≤ b → b ≡ 0 → a ≡ 0
      none_of a b h e = omega arith

      equal_le : (a b : ℕ) → a ≡ 1 → b ≡ 1 → a ≤ b
      equal_le a b e f = omega arith

      same_le : (a b x y : ℕ) → a ≡ x → b ≡ y → x ≤ y → a ≤ b
      same_le a b x y e f h = omega arith

  -- the part of the next number within the others is the next part
  pub record IsNextPart (part after : ℕ) : Type 0 where
    pub is_part : IsPart mask k after
    pub greater : part < after
    pub least : (later : ℕ) → part < later → IsPart mask k later → after ≤ later

  pub next_part : (part n : ℕ) → IsPart mask k part → bit_and n (mask - 2 ^ k) ≡ n → (part - 2 ^ k) < n
      → ((t : ℕ) → (part - 2 ^ k) < t → bit_and t (mask - 2 ^ k) ≡ t → n ≤ t) → IsNextPart part (n + 2 ^ k)
  next_part part n is_part within greater least = record {
    is_part = part_with n within;
    greater = let low : 2 ^ k ≤ part = bit_le part k is_part.first in omega arith;
    least = λ later above is_later.
        let low : 2 ^ k ≤ part = bit_le part k is_part.first in
        let low_later : 2 ^ k ≤ later = bit_le later k is_later.first in
        let after : n ≤ later - 2 ^ k = least (later - 2 ^ k) (omega arith) (rest_within later is_later) in
        omega arith;
  }

-- the test
pub is_part_true : (mask part : ℕ) → is_first_part mask part ≡ true → IsPart mask (first_bit mask) part
is_part_true mask part holds =
    let parts = and_parts (bit_and part mask == part) (bit_at part (first_bit mask) == 1) holds in
    record {
      within = eqb-true (bit_and part mask) part parts.0;
      first = eqb-true (bit_at part (first_bit mask)) 1 parts.1;
    }

pub part_is_true : (mask part : ℕ) → IsPart mask (first_bit mask) part → is_first_part mask part ≡ true
part_is_true mask part is_part =
    and_from (bit_and part mask == part) (bit_at part (first_bit mask) == 1)
    (eq-eqb (bit_and part mask) part is_part.within) (eq-eqb (bit_at part (first_bit mask)) 1 is_part.first)

pub first_bit_set : (mask : ℕ) → 0 < mask → mask < 2 ^ 32 → bit_at mask (first_bit mask) ≡ 1
first_bit_set mask some small = (bit_at-trailing_zeros w32 mask some small).1

pub first_bit_small : (mask : ℕ) → 0 < mask → mask < 2 ^ 32 → first_bit mask < 32
first_bit_small mask some small = (bit_at-trailing_zeros w32 mask some small).0

pub first_bit_pow : (mask : ℕ) → 0 < mask → mask < 2 ^ 32 → 1 * 2 ^ first_bit mask % 4294967296 ≡ 2 ^ first_bit mask
first_bit_pow mask some small =
    let below : first_bit mask < 32 = first_bit_small mask some small in
    let fits : 2 ^ first_bit mask < 2 ^ 32 = pow-lt below in
    one_fits (2 ^ first_bit mask) fits
  where
    one_fits : (n : ℕ) → n < 2 ^ 32 → 1 * n % 4294967296 ≡ n
    one_fits n fits = omega arith

-- the same of the test, f being the bit of the first cavity
module _ (mask f : ℕ) (some : 0 < mask) (small : mask < 2 ^ 32) (is : f ≡ 2 ^ first_bit mask) where
  set : bit_at mask (first_bit mask) ≡ 1
  set = first_bit_set mask some small

  pub first_is_part : is_first_part mask f ≡ true
  first_is_part = rw is (part_is_true mask (2 ^ first_bit mask) (least_part mask (first_bit mask) set))

  pub first_within : f ≤ mask
  first_within = rw is (part_le mask (first_bit mask) set (2 ^ first_bit mask) (least_part mask (first_bit mask) set)).1

  pub first_least : (part : ℕ) → is_first_part mask part ≡ true → f ≤ part
  first_least part holds = rw is (part_le mask (first_bit mask) set part (is_part_true mask part holds)).0

  pub others_within : (part : ℕ) → is_first_part mask part ≡ true → bit_and (part - f) (mask - f) ≡ part - f
  others_within part holds = rw is (rest_within mask (first_bit mask) set part (is_part_true mask part holds))

  next_is : (part n : ℕ) → is_first_part mask part ≡ true → bit_and n (mask - f) ≡ n → (part - f) < n
      → ((t : ℕ) → (part - f) < t → bit_and t (mask - f) ≡ t → n ≤ t) → IsNextPart mask (first_bit mask) set part (f + n)
  next_is part n holds within greater least =
      let within' : bit_and n (mask - 2 ^ first_bit mask) ≡ n = rw is at within in
      let greater' : (part - 2 ^ first_bit mask) < n = rw is at greater in
      let least' : (t : ℕ) → (part - 2 ^ first_bit mask) < t → bit_and t (mask - 2 ^ first_bit mask) ≡ t → n ≤ t =
      subst (λ x. (t : ℕ) → (part - x) < t → bit_and t (mask - x) ≡ t → n ≤ t) is least in
      let turn : n + 2 ^ first_bit mask ≡ f + n = omega (arith, is) in
      subst (IsNextPart mask (first_bit mask) set part) turn
      (next_part mask (first_bit mask) set part n (is_part_true mask part holds) within' greater' least')

  pub next_is_part : (part n : ℕ) → is_first_part mask part ≡ true → bit_and n (mask - f) ≡ n → (part - f) < n
      → ((t : ℕ) → (part - f) < t → bit_and t (mask - f) ≡ t → n ≤ t) → is_first_part mask (f + n) ≡ true
  next_is_part part n holds within greater least =
      part_is_true mask (f + n) (next_is part n holds within greater least).is_part

  pub next_least : (part n : ℕ) → is_first_part mask part ≡ true → bit_and n (mask - f) ≡ n → (part - f) < n
      → ((t : ℕ) → (part - f) < t → bit_and t (mask - f) ≡ t → n ≤ t) → (later : ℕ) → part < later
      → is_first_part mask later ≡ true → f + n ≤ later
  next_least part n holds within greater least later above holds_later =
      (next_is part n holds within greater least).least later above (is_part_true mask later holds_later)

pub first_part_some : (mask part : ℕ) → is_first_part mask part ≡ true → 1 ≤ part
first_part_some mask part holds =
    let low : 2 ^ first_bit mask ≤ part = bit_le part (first_bit mask) (is_part_true mask part holds).first in
    omega (arith, low, pow_pos (first_bit mask))
