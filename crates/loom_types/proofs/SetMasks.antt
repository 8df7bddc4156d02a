-- The mask of a set: its lowest bit, and what stands above it.
use Rattle.std.proofs.Common.{ℕ, zero, suc, List, [], ◌∷◌, length, drop, slice_index, ◌≡◌, ◌+◌, ◌-◌, ◌*◌, ◌/◌, ◌%◌, ◌^◌, ◌<◌, ◌≤◌, arith, refl, sym, ◌∙◌, ap}
use Rattle.std.proofs.Math.Nat.{mul_assoc}
use Rattle.std.proofs.Math.Pow.{pow_mono}
use Rattle.std.specs.Int.{bit_at, w32}
use Rattle.std.proofs.lemmas.Nat.{pow_pos}
use Rattle.std.proofs.lemmas.Nat.Bits.{bit_at_lowest, bit_at-suc, bit_at-trailing_zeros}
use Rattle.loom_topology.specs.Legal.{chosen, cavities_of_mask}
use Rattle.loom_topology.proofs.Hangs.{chosen-one, chosen-none, pow_length}
use Rattle.loom_types.specs.SetMask.{stem_of, rest_of, stem_cavity}

-- the number with lowest bit t and the bits of k above it
abbrev pub raised : ℕ → ℕ → ℕ
raised t k = 2 ^ t * (2 * k + 1)

double : (t x : ℕ) → 2 ^ suc t * x ≡ 2 * (2 ^ t * x)
double t x = let e : 2 ^ suc t ≡ 2 * 2 ^ t = omega arith in rw e (mul_assoc 2 (2 ^ t) x)

pub lowest : (t n : ℕ) → bit_at n t ≡ 1 → ((i : ℕ) → i < t → bit_at n i ≡ 0) → (k : ℕ) × (n ≡ raised t k)
lowest zero n here below =
    let odd : n % 2 ≡ 1 = sym (bit_at_lowest n) ∙ here in
    (n / 2, omega (arith, odd))
lowest (suc t) n here below =
    let even : n % 2 ≡ 0 = sym (bit_at_lowest n) ∙ below 0 (omega arith) in
    let (k, half) = lowest t (n / 2) (sym (bit_at-suc n t) ∙ here) (λ i h. sym (bit_at-suc n i) ∙ below (suc i) (omega arith)) in
    (k, omega (arith, even, half, double t (2 * k + 1)))

pub stem_bit : (mask : ℕ) → 0 < mask → mask < 2 ^ 32 → (k : ℕ) × (mask ≡ raised (stem_of mask) k)
stem_bit mask some fits =
    let (within, here, below) = bit_at-trailing_zeros w32 mask some fits in
    lowest (stem_of mask) mask here below

pub stem_within : (mask : ℕ) → 0 < mask → mask < 2 ^ 32 → 2 ^ stem_of mask ≤ mask
stem_within mask some fits =
    let (k, e) = stem_bit mask some fits in
    omega (arith, e)

above : (t k mask : ℕ) → mask ≡ raised t k → (mask - 2 ^ t) / 2 ≡ 2 ^ t * k
above t k mask e = rw e (omega arith)

chosen_above : (cs : List ℕ) (t k : ℕ) → raised t k < 2 ^ length cs → chosen cs (2 ^ suc t * k) ≡ chosen (drop 1 cs) (2 ^ t * k)
chosen_above [] t k fits = refl
chosen_above (c ∷ cs) t k fits =
    let even : 2 ^ suc t * k % 2 ≡ 0 = omega (arith, double t k) in
    let half : 2 ^ suc t * k / 2 ≡ 2 ^ t * k = omega (arith, double t k) in
    chosen-none c cs (2 ^ suc t * k) even ∙ ap (chosen cs) half

pub chosen_raised : (terminals : List ℕ) (t k : ℕ) → raised t k < 2 ^ length terminals
    → chosen terminals (raised t k) ≡ slice_index terminals t ∷ chosen (drop 1 terminals) (2 ^ t * k)
chosen_raised [] t k fits = absurd (omega (arith, fits, pow_pos t))
chosen_raised (c ∷ cs) zero k fits =
    let odd : raised 0 k % 2 ≡ 1 = omega arith in
    let half : raised 0 k / 2 ≡ 2 ^ 0 * k = omega arith in
    chosen-one c cs (raised 0 k) odd ∙ ap (λ m. c ∷ chosen cs m) half
chosen_raised (c ∷ cs) (suc t) k fits =
    let even : raised (suc t) k % 2 ≡ 0 = omega (arith, double t (2 * k + 1)) in
    let half : raised (suc t) k / 2 ≡ raised t k = omega (arith, double t (2 * k + 1)) in
    let within : raised t k < 2 ^ length cs = omega (arith, fits, pow_length c cs, double t (2 * k + 1)) in
    chosen-none c cs (raised (suc t) k) even
    ∙ (ap (chosen cs) half
    ∙ (chosen_raised cs t k within ∙ ap (λ rest. slice_index cs t ∷ rest) (sym (chosen_above cs t k within))))

pub set_is_stem_and_rest : (terminals : List ℕ) (mask : ℕ) → 0 < mask → mask < 2 ^ length terminals → length terminals ≤ 32
    → chosen terminals mask ≡ stem_cavity terminals mask ∷ cavities_of_mask terminals (rest_of mask)
set_is_stem_and_rest terminals mask some fits few =
    let narrow : mask < 2 ^ 32 = omega (arith, fits, pow_mono {i = length terminals} {j = 32} few) in
    let (k, e) = stem_bit mask some narrow in
    let within : raised (stem_of mask) k < 2 ^ length terminals = omega (arith, e, fits) in
    ap (chosen terminals) e ∙ (chosen_raised terminals (stem_of mask) k within
    ∙ ap (λ rest. stem_cavity terminals mask ∷ chosen (drop 1 terminals) rest) (sym (above (stem_of mask) k mask e)))
