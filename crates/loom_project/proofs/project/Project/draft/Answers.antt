use Rattle.std.proofs.Common.{sym, ap, ◌∙◌}
use Rattle.loom_project.specs.Sound.{draft_check}
use Rattle.loom_project.proofs.SoundLemmas.{within_limits}
use Rattle.loom_project.proofs.project.Project.draft.Goals as goal

pub returns-clause-limits : goal.returns-clause-limits
returns-clause-limits c = within_limits c.args.self.now (ap draft_check (sym c.self.view_is) ∙ c.self.invariant.sound)
