use Rattle.std.proofs.lemmas.Result.{err_from_is_err_and}
use Rattle.loom_project.specs.declared.fault.ProjectFault.TheVariants as failures
use Rattle.loom_edits.proofs.CauseLemmas.{no_failure}
use Rattle.loom_edits.proofs.applying.edited.Goals as goal

pub returns-in_err-draft-clause-memory : goal.returns-in_err-draft-clause-memory
returns-in_err-draft-clause-memory c is =
    let p = err_from_is_err_and c.from_residual.result c.from_residual.ensures.1 in
    let x = p.1 in let y = p.2 in
    no_failure _ _ c.in_err-draft.field-0.0 failures.NoMemory c.in_err-draft.ensures cc
