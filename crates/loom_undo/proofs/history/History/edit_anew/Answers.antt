use Rattle.std.proofs.lemmas.Result.{err_from_is_err_and}
use Rattle.loom_undo.proofs.HistoryLemmas.{has_inverse, is_step, edit_keeps, edit_moves, edit_fails}
use Rattle.loom_undo.proofs.history.History.edit_anew.Goals as goal

pub returns-in_err-project-clause-cause : goal.returns-in_err-project-clause-cause
returns-in_err-project-clause-cause c =
    let p = err_from_is_err_and c.from_residual.result c.from_residual.ensures.1 in
    rw (p.1, p.2) (λ apart. edit_fails c.self.inside.kept c.self.inside.standing c.self.inside.project c.args.edit.now c.args.self.now c.in_err-project.field-0.0 c.self.view_is (c.in_err-project.ensures.gives apart))

pub step_of-requires : goal.step_of-requires
step_of-requires c =
    has_inverse c.self.inside.project c.args.edit.now c.in_ok-project.project c.in_ok-project.ensures.gives

pub invariant_of-self-2 : goal.invariant_of-self-2
invariant_of-self-2 c =
    let step = is_step c.self.inside.project c.in_ok-project.project c.in_ok-step.step c.args.edit.now c.step_of.ensures.sound c.in_ok-project.ensures.gives c.in_ok-step.ensures.edit c.in_ok-step.ensures.inverse in
    edit_keeps c.self.inside.kept c.self.inside.standing c.self.inside.project c.in_ok-project.project c.in_ok-step.step c.keep.new.kept _ c.self.invariant step c.in_ok-keep.ensures.kept c.len-self-inside.ensures

pub returns-clause-applied : goal.returns-clause-applied
returns-clause-applied c =
    let step = is_step c.self.inside.project c.in_ok-project.project c.in_ok-step.step c.args.edit.now c.step_of.ensures.sound c.in_ok-project.ensures.gives c.in_ok-step.ensures.edit c.in_ok-step.ensures.inverse in
    edit_moves c.self.inside.kept c.self.inside.standing c.self.inside.project c.in_ok-project.project c.in_ok-step.step c.args.edit.now c.keep.new.kept _ c.args.self.now c.self.view_is step c.in_ok-step.ensures.edit c.in_ok-keep.ensures.kept c.len-self-inside.ensures
