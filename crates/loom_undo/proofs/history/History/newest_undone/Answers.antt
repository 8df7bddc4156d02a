use Rattle.std.proofs.Common.{sym}
use Rattle.loom_undo.proofs.HistoryLemmas.{undone_is, undone_none}
use Rattle.loom_undo.proofs.history.History.newest_undone.Goals as goal

pub returns-in_err-step : goal.returns-in_err-step
returns-in_err-step c =
    rw c.from_residual.ensures (undone_none c.self.inside.kept c.self.inside.standing c.self.inside.project c.args.self.now c.self.view_is (sym c.in_err-step.ensures.value))

pub returns : goal.returns
returns c =
    undone_is c.self.inside.kept c.self.inside.standing c.in_ok-step.step.now c.self.inside.project c.args.self.now c.self.view_is (sym c.in_ok-step.ensures.value)
