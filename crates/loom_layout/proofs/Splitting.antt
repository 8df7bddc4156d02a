-- The parts that hold a mask's first cavity, as their rests fall through the mask without that cavity.
use Rattle.std.proofs.Common.{ℕ, Option, Some, None, true, false, eqb, ◌≡◌, ◌≢◌, ◌+◌, ◌-◌, ◌*◌, ◌^◌, ◌<◌, ◌≤◌, min, max, bit_and, arith, sym, ◌∙◌, ap, subst, inl, inr}
use Rattle.std.specs.Int.{bit_at, w32}
use Rattle.std.specs.Int.Bits.{and_self, and_block}
use Rattle.std.proofs.lemmas.Bool.{cases_lt, cases_eq, eqb-true, eqb-false}
use Rattle.std.proofs.lemmas.Nat.{and_comm, and_le_r, pow_pos}
use Rattle.std.proofs.lemmas.Nat.Bits.{bit_at_and, bit_at-lt, bit_at-pow_same, bit_at-pow_other, bit_at-trailing_zeros, and_pow, same_from_bits}
use Rattle.std.specs.Option.{option_eq}
use Rattle.loom_topology.specs.Topology.{TopologyView, branch_at}
use Rattle.loom_topology.specs.Legal.{plus}
use Rattle.loom_topology.specs.Ties.{IsFirstPart, Splits}
use Rattle.loom_steiner.proofs.Parts.{and_part, next_part, part_apart, part_of_sum}
use Rattle.loom_types.specs.SetMask.{stem_of}
use Rattle.loom_types.proofs.SetMasks.{raised, stem_bit}
use Rattle.loom_layout.proofs.Apart.{no_common_bit, bit_of_sum, bit_of_part}

-- a mask without its lowest bit
abbrev pub others_of : ℕ → ℕ
others_of mask = bit_and mask (mask - 1)

blocks : (a b r s : ℕ) → a ≡ b → r ≡ s → a + r ≡ b + s
blocks a b r s e f = omega (arith, e, f)

others_raised : (t k : ℕ) → bit_and (raised t k) (raised t k - 1) ≡ raised t k - 2 ^ t
others_raised t k =
    let low : 0 < 2 ^ t = pow_pos t in
    let left : raised t k ≡ (k * 2 ^ 1 + 1) * 2 ^ t + 0 = omega arith in
    let right : raised t k - 1 ≡ (k * 2 ^ 1 + 0) * 2 ^ t + (2 ^ t - 1) = omega (arith, low) in
    let halves : bit_and (k * 2 ^ 1 + 1) (k * 2 ^ 1 + 0) ≡ k * 2 ^ 1 + 0 =
    and_block 1 k k 1 0 (omega arith) (omega arith) ∙ ap (λ n. n * 2 ^ 1 + bit_and 1 0) (and_self k) in
    let whole : bit_and ((k * 2 ^ 1 + 1) * 2 ^ t + 0) ((k * 2 ^ 1 + 0) * 2 ^ t + (2 ^ t - 1))
    ≡ bit_and (k * 2 ^ 1 + 1) (k * 2 ^ 1 + 0) * 2 ^ t + bit_and 0 (2 ^ t - 1) =
    and_block t (k * 2 ^ 1 + 1) (k * 2 ^ 1 + 0) 0 (2 ^ t - 1) low (omega (arith, low)) in
    let product : bit_and (k * 2 ^ 1 + 1) (k * 2 ^ 1 + 0) * 2 ^ t ≡ (k * 2 ^ 1 + 0) * 2 ^ t = ap (λ n. n * 2 ^ t) halves in
    ap (λ n. bit_and n (raised t k - 1)) left
    ∙ (ap (bit_and ((k * 2 ^ 1 + 1) * 2 ^ t + 0)) right
    ∙ (whole ∙ omega (arith, product, low)))

pub others_low : (mask : ℕ) → 0 < mask → mask < 2 ^ 32 → others_of mask ≡ mask - 2 ^ stem_of mask
others_low mask some fits =
    let (k, e) = stem_bit mask some fits in
    ap (λ n. bit_and n (n - 1)) e ∙ (others_raised (stem_of mask) k ∙ ap (λ n. n - 2 ^ stem_of mask) (sym e))

-- a part of a mask by its bits
part_from_bits : (a b : ℕ) → ((i : ℕ) → bit_at a i ≤ bit_at b i) → bit_and a b ≡ a
part_from_bits a b below = same_from_bits (bit_and a b) a (λ i.
    let e : min (bit_at a i) (bit_at b i) ≡ bit_at a i = omega (arith, below i) in
    bit_at_and a b i ∙ e)

module _ (mask : ℕ) (some : 0 < mask) (fits : mask < 2 ^ 32) where
  low_in_mask : bit_at mask (stem_of mask) ≡ 1
  low_in_mask = (bit_at-trailing_zeros w32 mask some fits).1

  none_below : (i : ℕ) → i < stem_of mask → bit_at mask i ≡ 0
  none_below = (bit_at-trailing_zeros w32 mask some fits).2

  low_part : bit_and (2 ^ stem_of mask) mask ≡ 2 ^ stem_of mask
  low_part =
      let one : bit_at mask (stem_of mask) * 2 ^ stem_of mask ≡ 2 ^ stem_of mask =
      ap (λ b. b * 2 ^ stem_of mask) low_in_mask ∙ omega arith in
      and_comm (2 ^ stem_of mask) mask ∙ (and_pow mask (stem_of mask) ∙ one)

  others_apart : bit_and (2 ^ stem_of mask) (others_of mask) ≡ 0
  others_apart =
      ap (bit_and (2 ^ stem_of mask)) (others_low mask some fits)
      ∙ part_apart mask (2 ^ stem_of mask) mask (omega arith) low_part

  bit_of_others : (i : ℕ) → bit_at mask i ≡ max (bit_at (2 ^ stem_of mask) i) (bit_at (others_of mask) i)
  bit_of_others i =
      let whole : 2 ^ stem_of mask + others_of mask ≡ mask =
      omega (arith, others_low mask some fits, and_le_r (2 ^ stem_of mask) mask, low_part) in
      ap (λ n. bit_at n i) (sym whole) ∙ bit_of_sum (2 ^ stem_of mask) (others_of mask) i others_apart

  others_in_mask : bit_and (others_of mask) mask ≡ others_of mask
  others_in_mask = part_from_bits (others_of mask) mask (λ i. omega (arith, bit_of_others i))

  others_without_low : bit_at (others_of mask) (stem_of mask) ≡ 0
  others_without_low = omega (
    arith,
    no_common_bit (2 ^ stem_of mask) (others_of mask) (stem_of mask) others_apart,
    bit_at-pow_same (stem_of mask),
    bit_at-lt (others_of mask) (stem_of mask),
  )

  module _ (rest : ℕ) (within : bit_and rest (others_of mask) ≡ rest) where
    rest_in_mask : bit_and rest mask ≡ rest
    rest_in_mask = part_from_bits rest mask (λ i. omega (arith, bit_of_part (others_of mask) rest i within, bit_of_part mask (others_of mask) i others_in_mask))

    pub rest_at_most : rest ≤ mask
    rest_at_most = omega (arith, and_le_r rest mask, rest_in_mask)

    pub rest_below : rest < mask
    rest_below = omega (arith, and_le_r rest (others_of mask), within, others_low mask some fits, pow_pos (stem_of mask), and_le_r (2 ^ stem_of mask) mask, low_part)

    aside : bit_and rest (mask - rest) ≡ 0
    aside = part_apart mask rest mask (omega arith) rest_in_mask

    -- what is left of the mask is a first part
    pub first_part : rest ≢ 0 → IsFirstPart mask (mask - rest)
    first_part more = record {
      within =
          let e : (mask - rest) + rest ≡ mask = omega (arith, rest_at_most) in
          subst (λ (n : ℕ). bit_and (mask - rest) n ≡ mask - rest) e
          (part_of_sum (mask - rest) (mask - rest) rest (omega arith) (and_comm (mask - rest) rest ∙ aside));
      first = (
        stem_of mask,
        (let union : bit_at mask (stem_of mask) ≡ max (bit_at rest (stem_of mask)) (bit_at (mask - rest) (stem_of mask)) =
            let e : rest + (mask - rest) ≡ mask = omega (arith, rest_at_most) in
            ap (λ n. bit_at n (stem_of mask)) (sym e) ∙ bit_of_sum rest (mask - rest) (stem_of mask) aside in
            omega (
              arith,
              union,
              low_in_mask,
              others_without_low,
              bit_of_part (others_of mask) rest (stem_of mask) within,
            )),
        none_below,
      );
      rest = omega (arith, more, rest_at_most);
    }

  -- and each first part leaves such a rest
  pub rest_of_first : (part : ℕ) → IsFirstPart mask part → bit_and (mask - part) (others_of mask) ≡ mask - part
  rest_of_first part first =
      let (j, here, below) = first.first in
      let parted : bit_and part (mask - part) ≡ 0 = part_apart mask part mask (omega arith) first.within in
      let union : (i : ℕ) → bit_at mask i ≡ max (bit_at part i) (bit_at (mask - part) i) = λ i.
      let e : part + (mask - part) ≡ mask = omega (arith, first.rest) in
      ap (λ n. bit_at n i) (sym e) ∙ bit_of_sum part (mask - part) i parted in
      let at_low : j ≡ stem_of mask = elim (cases_lt j (stem_of mask)) [
        | inl less ↦ absurd (omega (arith, union j, here, none_below j less))
        | inr more ↦ elim (cases_lt (stem_of mask) j) [
          | inl less ↦ absurd (omega (arith, low_in_mask, below (stem_of mask) less))
          | inr same ↦ omega (arith, more, same)
        ]
      ] in
      let taken : bit_at part (stem_of mask) ≡ 1 = ap (bit_at part) (sym at_low) ∙ here in
      part_from_bits (mask - part) (others_of mask) (λ i. elim (cases_eq i (stem_of mask)) [
        | inl e ↦
            let none : bit_at (mask - part) (stem_of mask) ≡ 0 =
            omega (arith, no_common_bit part (mask - part) (stem_of mask) parted, taken, bit_at-lt (mask - part) (stem_of mask)) in
            let zero_here : bit_at (mask - part) i ≡ 0 = ap (bit_at (mask - part)) e ∙ none in
            omega (arith, zero_here)
        | inr other ↦ omega (arith, union i, bit_of_others i, bit_at-pow_other (stem_of mask) i other)
      ])

  module _ (topology : TopologyView) (least : ℕ → ℕ → Option ℕ) (v : ℕ) where
    -- each split's part is at least the mask without the rest
    abbrev pub NoSplitBefore : ℕ → Type 0
    NoSplitBefore rest = (part : ℕ) → Splits topology least mask v part → mask - rest ≤ part

    pub no_split_before : NoSplitBefore (others_of mask)
    no_split_before part splits =
        let first = splits.0 in
        omega (arith, rest_of_first part first, and_le_r (mask - part) (others_of mask), first.rest)

    pub no_split_next : (rest : ℕ) → bit_and rest (others_of mask) ≡ rest
        → (Splits topology least mask v (mask - rest) → ⊥) → NoSplitBefore rest → NoSplitBefore (bit_and (rest - 1) (others_of mask))
    no_split_next rest within untied before part splits =
        let first = splits.0 in
        let left : bit_and (mask - part) (others_of mask) ≡ mask - part = rest_of_first part first in
        let other : mask - part ≢ rest = λ e.
        let same : part ≡ mask - rest = omega (arith, e, first.rest) in
        untied (subst (λ (p : ℕ). Splits topology least mask v p) same splits) in
        let less : mask - part < rest = omega (arith, before part splits, rest_at_most rest within, other, first.rest) in
        omega (arith, next_part rest (mask - part) rest (others_of mask) (omega arith) left within less, first.rest)

    pub no_split_at_all : (rest : ℕ) → rest ≡ 0 → NoSplitBefore rest → (part : ℕ) → Splits topology least mask v part → ⊥
    no_split_at_all rest none before part splits =
        let first = splits.0 in
        absurd (omega (arith, before part splits, none, first.rest))

pub rest_next : (rest others : ℕ) → bit_and (bit_and (rest - 1) others) others ≡ bit_and (rest - 1) others
rest_next rest others = and_part (rest - 1) (rest - 1) others (omega arith)

-- costs that a test compares
pub same_cost : (o : Option ℕ) (n : ℕ) → option_eq eqb o (Some n) ≡ true → o ≡ Some n
same_cost None n e = absurd (let f : false ≡ true = e in cc)
same_cost (Some m) n e = ap Some (eqb-true m n e)

pub other_cost : (o : Option ℕ) (n : ℕ) → option_eq eqb o (Some n) ≡ false → o ≡ Some n → ⊥
other_cost None n e same = absurd (let f : None ≡ Some n = same in cc)
other_cost (Some m) n e same = eqb-false m n e (let f : Some m ≡ Some n = same in cc)

left_of_left : (mask rest : ℕ) → rest ≤ mask → mask - (mask - rest) ≡ rest
left_of_left mask rest below = omega (arith, below)

pub parts_cost : (least : ℕ → ℕ → Option ℕ) (mask rest v branch cost : ℕ) → rest ≤ mask
    → plus (plus (least (mask - rest) v) (least rest v)) (Some branch) ≡ Some cost
    → plus (plus (least (mask - rest) v) (least (mask - (mask - rest)) v)) (Some branch) ≡ Some cost
parts_cost least mask rest v branch cost below sum =
    subst (λ (r : ℕ). plus (plus (least (mask - rest) v) (least r v)) (Some branch) ≡ Some cost) (sym (left_of_left mask rest below)) sum

pub tied_parts : (topology : TopologyView) (least : ℕ → ℕ → Option ℕ) (mask rest v cost : ℕ) → rest ≤ mask → least mask v ≡ Some cost
    → Splits topology least mask v (mask - rest) → plus (plus (least (mask - rest) v) (least rest v)) (Some (branch_at topology v)) ≡ Some cost
tied_parts topology least mask rest v cost below cell splits =
    let tied = splits.1 in
    let sum : plus (plus (least (mask - rest) v) (least (mask - (mask - rest)) v)) (Some (branch_at topology v)) ≡ Some cost =
    tied.1 ∙ (sym tied.2 ∙ cell) in
    subst (λ (r : ℕ). plus (plus (least (mask - rest) v) (least r v)) (Some (branch_at topology v)) ≡ Some cost) (left_of_left mask rest below) sum
