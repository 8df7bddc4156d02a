-- Masks that are apart, and the parts of a mask.
use Rattle.std.proofs.Common.{ℕ, zero, suc, ◌≡◌, ◌+◌, ◌-◌, ◌^◌, ◌<◌, ◌≤◌, min, max, bit_and, arith, sym, ◌∙◌, ap}
use Rattle.std.specs.Int.{bit_at}
use Rattle.std.proofs.lemmas.Nat.{or_disjoint}
use Rattle.std.proofs.lemmas.Nat.Bits.{bit_at_and, bit_at_or, bit_at-zero, bit_at-lt, bit_at-pow_same, same_from_bits}
use Rattle.loom_topology.specs.Ties.{IsFirstPart}
use Rattle.loom_steiner.proofs.Parts.{part_apart}

-- the bits of two masks that are apart
pub no_common_bit : (a b i : ℕ) → bit_and a b ≡ 0 → min (bit_at a i) (bit_at b i) ≡ 0
no_common_bit a b i apart = sym (bit_at_and a b i) ∙ (ap (λ n. bit_at n i) apart ∙ bit_at-zero i)

pub apart_from_bits : (a b : ℕ) → ((i : ℕ) → min (bit_at a i) (bit_at b i) ≡ 0) → bit_and a b ≡ 0
apart_from_bits a b none = same_from_bits (bit_and a b) 0 (λ i. bit_at_and a b i ∙ (none i ∙ sym (bit_at-zero i)))

pub bit_of_sum : (a b i : ℕ) → bit_and a b ≡ 0 → bit_at (a + b) i ≡ max (bit_at a i) (bit_at b i)
bit_of_sum a b i apart = ap (λ n. bit_at n i) (sym (or_disjoint a b apart)) ∙ bit_at_or a b i

pub bit_of_part : (mask part i : ℕ) → bit_and part mask ≡ part → bit_at part i ≤ bit_at mask i
bit_of_part mask part i within =
    let e : bit_at part i ≡ min (bit_at part i) (bit_at mask i) = ap (λ n. bit_at n i) (sym within) ∙ bit_at_and part mask i in
    omega (arith, e)

-- a mask with a bit isn't empty
pub some_bit : (mask i : ℕ) → bit_at mask i ≡ 1 → 0 < mask
some_bit zero i here = absurd (omega (arith, here, bit_at-zero i))
some_bit (suc mask) i here = omega arith

-- a bit that is taken alone
pub free_bit : (done i : ℕ) → bit_and done (2 ^ i) ≡ 0 → bit_at done i ≡ 0
free_bit done i apart = omega (arith, no_common_bit done (2 ^ i) i apart, bit_at-pow_same i, bit_at-lt done i)

module _ (mask part : ℕ) (first : IsFirstPart mask part) where
  pub some_part : 0 < part
  some_part = some_bit part first.first.0 first.first.1

  pub some_rest : 0 < mask - part
  some_rest = omega (arith, first.rest)

  parted : bit_and part (mask - part) ≡ 0
  parted = part_apart mask part mask (omega arith) first.within

  whole : part + (mask - part) ≡ mask
  whole = omega (arith, first.rest)

  bit_of_mask : (i : ℕ) → bit_at mask i ≡ max (bit_at part i) (bit_at (mask - part) i)
  bit_of_mask i = ap (λ n. bit_at n i) (sym whole) ∙ bit_of_sum part (mask - part) i parted

  -- what is apart from a mask is apart from its part, and then from the rest
  pub part_aside : (done : ℕ) → bit_and done mask ≡ 0 → bit_and done part ≡ 0
  part_aside done apart = apart_from_bits done part
      (λ i. omega (arith, no_common_bit done mask i apart, bit_of_part mask part i first.within))

  pub rest_aside : (done : ℕ) → bit_and done mask ≡ 0 → bit_and (done + part) (mask - part) ≡ 0
  rest_aside done apart = apart_from_bits (done + part) (mask - part)
      (λ i. omega (
        arith,
        bit_of_sum done part i (part_aside done apart),
        no_common_bit done mask i apart,
        no_common_bit part (mask - part) i parted,
        bit_of_mask i,
        bit_at-lt mask i,
        bit_at-lt part i,
        bit_at-lt (mask - part) i,
        bit_at-lt done i,
      ))
