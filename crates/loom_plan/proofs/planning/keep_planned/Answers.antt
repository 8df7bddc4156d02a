use Rattle.std.proofs.Common.{◌∙◌}
use Rattle.std.proofs.lemmas.Result.{on_ok_weaker}
use Rattle.loom_plan.proofs.KeptKeys.{keeps_live, nets_within}
use Rattle.loom_plan.proofs.planning.keep_planned.Goals as goal

pub returns-clause-keeps : goal.returns-clause-keeps
returns-clause-keeps c =
    on_ok_weaker c.keep_live.result
    (λ keeps. keeps_live c.args.project.now c.args.tables.now c.requires.tables c.as_slice.result.now (c.as_slice.ensures ∙ c.in_ok-nets.ensures)
    c.args.kept.now c.keep_live.new.self c.requires.has_live keeps)
    c.keep_live.ensures.keys

pub keep_live-requires : goal.keep_live-requires
keep_live-requires c =
    nets_within c.args.project.now c.args.tables.now c.requires.tables c.as_slice.result.now (c.as_slice.ensures ∙ c.in_ok-nets.ensures)
