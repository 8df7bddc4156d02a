use Rattle.std.proofs.lemmas.Result.{err_from_is_err_and}
use Rattle.loom_edits.proofs.NumberLemmas.{fails_so}
use Rattle.loom_edits.proofs.applying.apply.Goals as goal

pub returns-in_err-change-clause-cause : goal.returns-in_err-change-clause-cause
returns-in_err-change-clause-cause c =
    let p = err_from_is_err_and c.from_residual.result c.from_residual.ensures.1 in
    rw (p.1, p.2) (λ apart. fails_so c.args.project.now c.args.edit.now c.in_err-change.field-0.0 c.in_err-change.ensures.number)
