-- Sums of cells and of steps.
use Rattle.std.proofs.Common.{ℕ, ◌-◌, ◌*◌, ◌%◌, ◌^◌, ◌≤◌, arith, pow_mono}
use Rattle.std.proofs.Math.Nat.{mul-le-mul_left}

-- at most eleven terminals past the first, at most 1,024 nodes
pub few_cells : (terminals nodes : ℕ) → terminals ≤ 12 → nodes ≤ 1024 → ((1 * 2 ^ (terminals - 1)) % 18446744073709551616 - 1) * nodes ≤ 2096128
few_cells terminals nodes few small =
    let masks = (1 * 2 ^ (terminals - 1)) % 18446744073709551616 - 1 in
    let power : 2 ^ (terminals - 1) ≤ 2 ^ 11 = pow_mono {i = terminals - 1} {j = 11} (omega (arith, few)) in
    let some : masks ≤ 2047 = omega (arith, power) in
    let one : masks * nodes ≤ masks * 1024 = mul-le-mul_left masks small in
    omega (arith, one, some)
