use Rattle.std.proofs.Common.{ap, subst, ◌∙◌}
use Rattle.std.specs.Prelude.{OnOk}
use Rattle.loom_laid.specs.Kept.{KeepsLiveKeys}
use Rattle.loom_session.specs.Session.{SessionView}
use Rattle.loom_session.proofs.session.Session.plan.Goals as goal

pub returns-clause-keeps : goal.returns-clause-keeps
returns-clause-keeps c =
    subst (λ draft. OnOk c.plan_kept.result (KeepsLiveKeys draft c.plan_kept.new.kept))
    (c.project-project.ensures ∙ ap (λ (s : SessionView). s.changes.draft) c.self.view_is) c.plan_kept.ensures.keeps
