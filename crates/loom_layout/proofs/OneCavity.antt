-- A mask of one cavity is a power of two, whose exponent is its lowest bit.
use Rattle.std.proofs.Common.{ℕ, List, length, map, slice_index, get_or, ◌≡◌, ◌+◌, ◌-◌, ◌*◌, ◌%◌, ◌^◌, ◌<◌, arith, sym, ◌∙◌, ap, inl, inr, pow_mono}
use Rattle.std.specs.Int.{w32, bit_at, trailing_zeros}
use Rattle.std.proofs.lemmas.Bool.{cases_lt, cases_eq}
use Rattle.std.proofs.lemmas.List.{length-map, get_or-map}
use Rattle.std.proofs.lemmas.Nat.{one_shl}
use Rattle.std.proofs.lemmas.Nat.Bits.{bit_at-trailing_zeros, bit_at-pow_other}
use Rattle.loom_base.specs.declared.positions.CavityNo.{CavityNo}
use Rattle.loom_topology.specs.Topology.{TopologyView, node_of}
use Rattle.loom_topology.specs.Legal.{IsMask}
use Rattle.loom_topology.specs.Ties.{IsOneAt}

pub power_below : (i j : ℕ) → 2 ^ i < 2 ^ j → i < j
power_below i j less = elim (cases_lt i j) [
  | inl h ↦ h
  | inr h ↦ absurd (omega (arith, less, pow_mono {i = j} {j = i} h))
]

pub lowest_within : (mask : ℕ) → 0 < mask → mask < 2 ^ 32 → trailing_zeros w32 mask < 32
lowest_within mask some fits = (bit_at-trailing_zeros w32 mask some fits).0

-- the code's power
pub shifted : (mask : ℕ) → 0 < mask → mask < 2 ^ 32 → 1 * 2 ^ trailing_zeros w32 mask % 2 ^ 32 ≡ 2 ^ trailing_zeros w32 mask
shifted mask some fits = one_shl (trailing_zeros w32 mask) 32 (lowest_within mask some fits)

pub lone_bit : (mask i : ℕ) → 0 < mask → mask < 2 ^ 32 → mask ≡ 2 ^ i → i ≡ trailing_zeros w32 mask
lone_bit mask i some fits power =
    let (within, here, below) = bit_at-trailing_zeros w32 mask some fits in
    elim (cases_eq (trailing_zeros w32 mask) i) [
      | inl e ↦ sym e
      | inr other ↦
          let set : bit_at (2 ^ i) (trailing_zeros w32 mask) ≡ 1 = ap (λ n. bit_at n (trailing_zeros w32 mask)) (sym power) ∙ here in
          absurd (omega (arith, set, bit_at-pow_other i (trailing_zeros w32 mask) other))
    ]

module _ (topology : TopologyView) (terminals : List CavityNo) (mask v t : ℕ) (range : IsMask (map (λ c. c.0) terminals) mask) where
  bit_within : mask ≡ 2 ^ t → t + 1 < length (map (λ c. c.0) terminals)
  bit_within power =
      let less : 2 ^ t < 2 ^ (length (map (λ c. c.0) terminals) - 1) = omega (arith, power, range.1) in
      omega (arith, power_below t (length (map (λ c. c.0) terminals) - 1) less)

  pub bit_in_terminals : mask ≡ 2 ^ t → t + 1 < length terminals
  bit_in_terminals power = omega (arith, bit_within power, length-map terminals (λ (c : CavityNo). c.0))

  number_at : (d : CavityNo) → mask ≡ 2 ^ t → slice_index (map (λ c. c.0) terminals) (t + 1) ≡ (get_or terminals (t + 1) d).0
  number_at d power = get_or-map (λ (c : CavityNo). c.0) terminals (t + 1) d 0 (bit_in_terminals power)

  pub is_one_at : (d : CavityNo) → mask ≡ 2 ^ t → node_of topology (get_or terminals (t + 1) d).0 ≡ v
      → IsOneAt topology (map (λ c. c.0) terminals) mask v t
  is_one_at d power home = (bit_within power, power, ap (node_of topology) (number_at d power) ∙ home)

  pub of_one_at : (d : CavityNo) (i : ℕ) → i ≡ t → IsOneAt topology (map (λ c. c.0) terminals) mask v i
      → node_of topology (get_or terminals (t + 1) d).0 ≡ v
  of_one_at d i e one =
      let power : mask ≡ 2 ^ t = one.1 ∙ ap (λ k. 2 ^ k) e in
      ap (node_of topology) (sym (number_at d power) ∙ ap (λ k. slice_index (map (λ c. c.0) terminals) (k + 1)) (sym e)) ∙ one.2
