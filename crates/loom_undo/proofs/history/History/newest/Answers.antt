use Rattle.std.proofs.Common.{◌≡◌, suc, get_or, arith}
use Rattle.loom_undo.proofs.HistoryLemmas.{newest_is, newest_none, stands_at}
use Rattle.loom_undo.proofs.history.History.newest.Goals as goal

pub returns-in_err-at : goal.returns-in_err-at
returns-in_err-at c =
    rw c.from_residual.ensures (newest_none c.self.inside.kept c.self.inside.standing c.self.inside.project c.args.self.now c.self.view_is (omega (arith, c.in_err-at.ensures)))

pub returns : goal.returns
returns c =
    let after : c.self.inside.standing ≡ suc c.in_ok-at.at = omega (arith, c.in_ok-at.ensures.0, c.in_ok-at.ensures.1) in
    let step = get_or c.as_slice.result.now c.in_ok-at.at c.index-as_slice-at.result in
    newest_is c.self.inside.kept c.self.inside.standing c.in_ok-at.at step c.self.inside.project c.args.self.now c.self.view_is after
    (stands_at c.self.inside.kept c.as_slice.result.now c.self.inside.standing c.in_ok-at.at c.index-as_slice-at.result c.as_slice.ensures after c.self.invariant.stand)
