use Rattle.std.proofs.Common.{◌+◌, ◌-◌, ◌<◌, ◌≤◌, length, bit_and, arith}
use Rattle.std.proofs.Math.Nat.{mul-le-mul_right}
use Rattle.std.proofs.lemmas.Nat.{and_le_l}
use Rattle.loom_steiner.proofs.Parts.{TakesSplits-next, and_part}
use Rattle.loom_steiner.proofs.split.split.Goals as goal

pub row_of-first-requires-clause-to : goal.row_of-first-requires-clause-to
row_of-first-requires-clause-to c =
    let n = length c.args.row.now in
    let less = and_le_l (c.loop-part.part - 1) c.args.rest in
    omega (arith, mul-le-mul_right n (let h : c.args.high + bit_and (c.loop-part.part - 1) c.args.rest ≤ c.args.high + c.args.rest - 1 = omega (arith, less, c.loop-part.invariant.2) in h))

pub loop-part-preserved : goal.loop-part-preserved
loop-part-preserved c =
    let less = and_le_l (c.loop-part.part - 1) c.args.rest in (
      TakesSplits-next c.args.cells.now c.args.branches.now (length c.args.row.now) c.args.high c.args.rest c.loop-part.part
          c.args.row.now c.loop-part.row c.join.new.row c.loop-part-test.true c.loop-part.invariant.2 c.loop-part.invariant.1
          (omega (arith, c.join.auto.row))
          (λ v h. let within : v < length c.args.row.now = omega (arith, c.loop-part.auto.row) in
          omega (arith, c.join.ensures v h, c.row_of-first.ensures.value v within, c.row_of-second.ensures.value v within))
          c.loop-part.invariant.0,
      and_part (c.loop-part.part - 1) (c.loop-part.part - 1) c.args.rest (omega arith),
      omega (arith, c.loop-part.invariant.2),
    )
