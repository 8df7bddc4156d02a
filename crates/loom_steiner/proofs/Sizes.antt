use Rattle.std.proofs.Common.{List, [], ◌∷◌, ℕ, ◌+◌, ◌/◌, ◌%◌, ◌^◌, ◌<◌, ◌≤◌, ◌≡◌, length, drop, bit_and, inl, inr, refl, ap, arith, length-drop}
use Rattle.std.specs.Int.Bits.{and_step}
use Rattle.loom_topology.specs.Legal.{chosen, cavities_of_mask}
use Rattle.loom_topology.proofs.Hangs.{chosen-one, chosen-none}
use Rattle.loom_topology.proofs.Masks.{power_is_one_cavity}
use Rattle.std.proofs.lemmas.Bool.{cases_eq}

size-cons : (c : ℕ) (cs : List ℕ) (mask : ℕ) → length (chosen (c ∷ cs) mask) ≡ mask % 2 + length (chosen cs (mask / 2))
size-cons c cs mask = elim (cases_eq (mask % 2) 1) [
  | inl odd ↦ omega (arith, ap length (chosen-one c cs mask odd))
  | inr even ↦ (let none : mask % 2 ≡ 0 = omega arith in omega (arith, ap length (chosen-none c cs mask none)))
]

size-sum : (cs : List ℕ) (a b : ℕ) → bit_and a b ≡ 0 → length (chosen cs (a + b)) ≡ length (chosen cs a) + length (chosen cs b)
size-sum [] a b apart = refl
size-sum (c ∷ cs) a b apart =
    let step = and_step a b in
    let halves : bit_and (a / 2) (b / 2) ≡ 0 = omega arith in
    let half : (a + b) / 2 ≡ a / 2 + b / 2 = omega arith in
    let odd : (a + b) % 2 ≡ a % 2 + b % 2 = omega arith in
    let same : length (chosen cs ((a + b) / 2)) ≡ length (chosen cs (a / 2 + b / 2)) = ap (λ (m : ℕ). length (chosen cs m)) half in
    omega (arith, size-cons c cs (a + b), size-cons c cs a, size-cons c cs b, size-sum cs (a / 2) (b / 2) halves, same, odd)

size-bound : (cs : List ℕ) (mask : ℕ) → length (chosen cs mask) ≤ length cs
size-bound [] mask = omega arith
size-bound (c ∷ cs) mask = omega (arith, size-cons c cs mask, size-bound cs (mask / 2))

-- two masks that are apart have their cavities together
pub cavities-sum : (terminals : List ℕ) (a b : ℕ) → bit_and a b ≡ 0
    → length (cavities_of_mask terminals (a + b)) ≡ length (cavities_of_mask terminals a) + length (cavities_of_mask terminals b)
cavities-sum terminals a b apart = size-sum (drop 1 terminals) a b apart

pub cavities-one : (terminals : List ℕ) (i : ℕ) → i + 1 < length terminals → length (cavities_of_mask terminals (2 ^ i)) ≡ 1
cavities-one terminals i range = ap length (power_is_one_cavity terminals i range)

pub cavities-bound : (terminals : List ℕ) (mask : ℕ) → length (cavities_of_mask terminals mask) + 1 ≤ length terminals + 1
cavities-bound terminals mask = omega (arith, size-bound (drop 1 terminals) mask, length-drop 1 terminals)
