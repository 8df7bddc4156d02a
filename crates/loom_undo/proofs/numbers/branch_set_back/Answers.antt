use Rattle.std.proofs.Common.{arith}
use Rattle.loom_undo.proofs.NumbersBack.{branch_sets_back}
use Rattle.loom_undo.proofs.numbers.branch_set_back.Goals as goal

pub returns : goal.returns
returns c =
    branch_sets_back c.args.draft.now c.args.branch (record { 0 = c.args.at }) (omega (arith, c.len.ensures, c.if-at-len.false))
