-- The mask of one cavity.
use Rattle.std.proofs.Common.{ℕ, List, Bool, length, map, get_or, ◌==◌, ◌&&◌, ◌≡◌, ◌+◌, ◌-◌, ◌*◌, ◌%◌, ◌^◌, ◌<◌, ◌≤◌, slice_index, sym, ap, ◌∙◌, subst, inl, inr, arith}
use Rattle.std.proofs.Math.Pow.{pow_mono}
use Rattle.std.proofs.lemmas.Bool.{cases_lt, eq-eqb}
use Rattle.std.proofs.lemmas.List.{get_or-map}
use Rattle.loom_topology.specs.Topology.{TopologyView, node_of}
use Rattle.loom_potential.specs.FirstBreak.{first_bit, is_one_at}
use Rattle.loom_potential.proofs.FirstParts.{first_bit_pow}

-- a power below a greater one
pub pow_below : (i n : ℕ) → 2 ^ i < 2 ^ n → i < n
pow_below i n below =
    elim (cases_lt i n) [
      | inl within ↦ within
      | inr past ↦ let more : 2 ^ n ≤ 2 ^ i = pow_mono past in absurd (omega arith)
    ]

pub one_within : (mask n : ℕ) → 1 ≤ mask → mask < 2 ^ 32 → mask < 2 ^ (n - 1) → mask ≡ 1 * 2 ^ first_bit mask % 4294967296
    → first_bit mask + 1 < n
one_within mask n some small within is =
    let pow : mask ≡ 2 ^ first_bit mask = is ∙ first_bit_pow mask some small in
    let low : first_bit mask < n - 1 = pow_below (first_bit mask) (n - 1) (subst (λ m. m < 2 ^ (n - 1)) pow within) in
    omega arith

-- what the code finds is the test
pub one_is : {X : Type 0} (topology : TopologyView) (f : X → ℕ) (terminals : List X) (d : X) (mask v node : ℕ) (answer : Bool)
    → 1 ≤ mask → mask < 2 ^ 32 → first_bit mask + 1 < length terminals → mask ≡ 1 * 2 ^ first_bit mask % 4294967296
    → node ≡ node_of topology (f (get_or terminals (first_bit mask + 1) d)) → answer ≡ (node == v)
    → answer ≡ is_one_at topology (map f terminals) mask v
one_is topology f terminals d mask v node answer some small within is node_is answer_is =
    let pow : mask ≡ 2 ^ first_bit mask = is ∙ first_bit_pow mask some small in
    let terminal : slice_index (map f terminals) (first_bit mask + 1) ≡ f (get_or terminals (first_bit mask + 1) d) =
    get_or-map f terminals (first_bit mask + 1) d 0 within in
    answer_is ∙ (ap (λ n. n == v) (node_is ∙ ap (node_of topology) (sym terminal))
    ∙ sym (ap (λ b. b && (node_of topology (slice_index (map f terminals) (first_bit mask + 1)) == v))
    (eq-eqb mask (2 ^ first_bit mask) pow)))
