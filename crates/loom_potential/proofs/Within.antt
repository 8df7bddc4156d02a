-- The numbers whose bits stand in a mask, and the next of them.
use Rattle.std.proofs.Common.{ℕ, zero, suc, ◌≡◌, ◌+◌, ◌-◌, ◌*◌, ◌/◌, ◌%◌, ◌^◌, ◌<◌, ◌≤◌, bit_and, min, refl, sym, ap, ◌∙◌, inl, inr, arith}
use Rattle.std.specs.Int.Bits.{and_zero_r}
use Rattle.std.specs.Int.{bit_at}
use Rattle.std.proofs.lemmas.Bool.{cases_eq}
use Rattle.std.proofs.lemmas.Nat.{and_shr, and_mod, and_le_r}
use Rattle.std.proofs.lemmas.Nat.Bits.{bit_at_and, same_from_bits}

-- by bits
pub within_bits : (a m : ℕ) → bit_and a m ≡ a → (i : ℕ) → bit_at a i ≤ bit_at m i
within_bits a m within i =
    let e : bit_at (bit_and a m) i ≡ min (bit_at a i) (bit_at m i) = bit_at_and a m i in
    let same : bit_at (bit_and a m) i ≡ bit_at a i = ap (λ n. bit_at n i) within in
    omega (arith, e, same)

pub within_from_bits : (a m : ℕ) → ((i : ℕ) → bit_at a i ≤ bit_at m i) → bit_and a m ≡ a
within_from_bits a m below = same_from_bits (bit_and a m) a (λ i. omega (arith, bit_at_and a m i, below i))

-- by halves
and_of : (x m y c e : ℕ) → x / 2 ≡ y → x % 2 ≡ c → m % 2 ≡ e → bit_and x m ≡ 2 * bit_and y (m / 2) + bit_and c e
and_of x m y c e half low low_m =
    let high : bit_and x m / 2 ≡ bit_and (x / 2) (m / 2) = and_shr x m 1 in
    let rest : bit_and x m % 2 ≡ bit_and (x % 2) (m % 2) = and_mod x m 1 in
    let high_is : bit_and x m / 2 ≡ bit_and y (m / 2) = high ∙ ap (λ n. bit_and n (m / 2)) half in
    let rest_is : bit_and x m % 2 ≡ bit_and c e = rest ∙ (ap (λ n. bit_and n (m % 2)) low ∙ ap (bit_and c) low_m) in
    omega (arith, high_is, rest_is)

half_within : (a m : ℕ) → bit_and a m ≡ a → bit_and (a / 2) (m / 2) ≡ a / 2
half_within a m within = sym (and_shr a m 1) ∙ ap (λ n. n / 2) within

low_within : (a m : ℕ) → bit_and a m ≡ a → a % 2 ≤ m % 2
low_within a m within =
    let rest : bit_and a m % 2 ≡ bit_and (a % 2) (m % 2) = and_mod a m 1 in
    let same : bit_and a m % 2 ≡ a % 2 = ap (λ n. n % 2) within in
    omega (arith, rest, same, and_le_r (a % 2) (m % 2))

-- the bits outside the mask don't count
beside_mask : (w m s : ℕ) → m < 2 ^ w → bit_and s m ≡ s → bit_and (s + (2 ^ w - 1 - m)) m ≡ s
beside_mask zero m s small within =
    let none : m ≡ 0 = omega arith in
    let empty : s ≡ 0 = sym within ∙ (ap (bit_and s) none ∙ and_zero_r s) in
    rw (none, empty) (and_zero_r (0 + (2 ^ 0 - 1 - 0)))
beside_mask (suc w) m s small within =
    let half : m / 2 < 2 ^ w = omega arith in
    let before : bit_and (s / 2 + (2 ^ w - 1 - m / 2)) (m / 2) ≡ s / 2 = beside_mask w (m / 2) (s / 2) half (half_within s m within) in
    let low : s % 2 ≤ m % 2 = low_within s m within in
    elim (cases_eq (m % 2) 1) [
      | inl odd ↦
          let x_half : (s + (2 ^ suc w - 1 - m)) / 2 ≡ s / 2 + (2 ^ w - 1 - m / 2) = omega arith in
          let x_low : (s + (2 ^ suc w - 1 - m)) % 2 ≡ s % 2 = omega arith in
          let parts : bit_and (s + (2 ^ suc w - 1 - m)) m ≡ 2 * bit_and (s / 2 + (2 ^ w - 1 - m / 2)) (m / 2) + bit_and (s % 2) 1 =
          and_of (s + (2 ^ suc w - 1 - m)) m (s / 2 + (2 ^ w - 1 - m / 2)) (s % 2) 1 x_half x_low odd in
          elim (cases_eq (s % 2) 1) [
            | inl s_odd ↦
                let one : bit_and (s % 2) 1 ≡ 1 = rw s_odd refl in
                omega (arith, parts, one, before)
            | inr s_not ↦
                let s_even : s % 2 ≡ 0 = omega arith in
                let nil : bit_and (s % 2) 1 ≡ 0 = rw s_even refl in
                omega (arith, parts, nil, before)
          ]
      | inr not_odd ↦
          let even : m % 2 ≡ 0 = omega arith in
          let x_half : (s + (2 ^ suc w - 1 - m)) / 2 ≡ s / 2 + (2 ^ w - 1 - m / 2) = omega arith in
          let parts : bit_and (s + (2 ^ suc w - 1 - m)) m ≡ 2 * bit_and (s / 2 + (2 ^ w - 1 - m / 2)) (m / 2) + bit_and 1 0 =
          and_of (s + (2 ^ suc w - 1 - m)) m (s / 2 + (2 ^ w - 1 - m / 2)) 1 0 x_half (omega arith) even in
          let nil : bit_and 1 0 ≡ 0 = refl in
          omega (arith, parts, nil, before)
    ]

-- n is the least number above s whose bits stand in the mask
pub record IsNext (m s n : ℕ) : Type 0 where
  pub greater : s < n
  pub least : (t : ℕ) → s < t → bit_and t m ≡ t → n ≤ t

next_of : (w m s : ℕ) → m < 2 ^ w → bit_and s m ≡ s → s < m → IsNext m s (bit_and (s + (2 ^ w - m)) m)
next_of zero m s small within below = absurd (omega arith)
next_of (suc w) m s small within below =
    let half : m / 2 < 2 ^ w = omega arith in
    let low : s % 2 ≤ m % 2 = low_within s m within in
    elim (cases_eq (s % 2) (m % 2)) [
      | inl same ↦
          let rest : IsNext (m / 2) (s / 2) (bit_and (s / 2 + (2 ^ w - m / 2)) (m / 2)) =
          next_of w (m / 2) (s / 2) half (half_within s m within) (omega arith) in
          let parts : bit_and (s + (2 ^ suc w - m)) m ≡ 2 * bit_and (s / 2 + (2 ^ w - m / 2)) (m / 2) + bit_and 0 (m % 2) =
          and_of (s + (2 ^ suc w - m)) m (s / 2 + (2 ^ w - m / 2)) 0 (m % 2) (omega arith) (omega arith) refl in
          let nil : bit_and 0 (m % 2) ≡ 0 = refl in
          let is : bit_and (s + (2 ^ suc w - m)) m ≡ 2 * bit_and (s / 2 + (2 ^ w - m / 2)) (m / 2) = omega (arith, parts, nil) in
          record {
            greater = omega (arith, is, rest.greater);
            least = λ t above within_t.
                let low_t : t % 2 ≤ m % 2 = low_within t m within_t in
                let half_above : s / 2 < t / 2 = omega arith in
                omega (arith, is, rest.least (t / 2) half_above (half_within t m within_t));
          }
      | inr other ↦
          let odd : m % 2 ≡ 1 = omega arith in
          let s_even : s % 2 ≡ 0 = omega arith in
          let parts : bit_and (s + (2 ^ suc w - m)) m ≡ 2 * bit_and (s / 2 + (2 ^ w - 1 - m / 2)) (m / 2) + bit_and 1 1 =
          and_of (s + (2 ^ suc w - m)) m (s / 2 + (2 ^ w - 1 - m / 2)) 1 1 (omega arith) (omega arith) odd in
          let one : bit_and 1 1 ≡ 1 = refl in
          let before : bit_and (s / 2 + (2 ^ w - 1 - m / 2)) (m / 2) ≡ s / 2 =
          beside_mask w (m / 2) (s / 2) half (half_within s m within) in
          let is : bit_and (s + (2 ^ suc w - m)) m ≡ s + 1 = omega (arith, parts, one, before) in
          record { greater = omega (arith, is); least = λ t above within_t. omega (arith, is, above) }
    ]

pub next_within : (m s : ℕ) → m < 2 ^ 32 → bit_and s m ≡ s → s < m → IsNext m s (bit_and ((s + (4294967296 - m)) % 4294967296) m)
next_within m s small within below =
    let e : (s + (4294967296 - m)) % 4294967296 ≡ s + (4294967296 - m) = omega arith in
    rw e (next_of 32 m s small within below)
