use Rattle.std.proofs.Common.{◌≡◌, ℕ, ◌*◌, ◌%◌, ◌^◌, ◌<◌, ap, ◌∙◌, arith}
use Rattle.std.specs.Int.{w32}
use Rattle.std.proofs.lemmas.Nat.{one_shl}
use Rattle.std.proofs.lemmas.Nat.Bits.{bit_at-trailing_zeros}
use Rattle.loom_types.specs.SetMask.{stem_of}
use Rattle.loom_types.proofs.SetMasks.{stem_within}
use Rattle.loom_types.proofs.set_mask.rest.Goals as goal

pub overflow_sub-result : goal.overflow_sub-result
overflow_sub-result c =
    let fits : c.args.mask < 2 ^ 32 = omega arith in
    let within = (bit_at-trailing_zeros w32 c.args.mask c.requires fits).0 in
    let same : 1 * 2 ^ c.stem.result % 2 ^ 32 ≡ 2 ^ stem_of c.args.mask =
    ap (λ (t : ℕ). 1 * 2 ^ t % 2 ^ 32) c.stem.ensures ∙ one_shl (stem_of c.args.mask) 32 within in
    omega (arith, same, stem_within c.args.mask c.requires fits)
