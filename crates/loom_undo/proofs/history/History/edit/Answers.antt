use Rattle.loom_edits.proofs.NumberLemmas.{fails_so}
use Rattle.loom_undo.proofs.HistoryLemmas.{edit_fails}
use Rattle.loom_undo.proofs.history.History.edit.Goals as goal

pub returns-in-Err-clause-cause : goal.returns-in-Err-clause-cause
returns-in-Err-clause-cause c apart =
    edit_fails c.self.inside.kept c.self.inside.standing c.self.inside.project c.args.edit.now c.args.self.now c.in-Err.fault c.self.view_is
    (fails_so c.self.inside.project c.args.edit.now c.in-Err.fault c.in-Err.ensures.number)
