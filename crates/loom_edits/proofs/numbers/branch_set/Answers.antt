use Rattle.loom_edits.proofs.NumberLemmas.{branch_seen}
use Rattle.loom_edits.proofs.numbers.branch_set.Goals as goal

pub returns-in-Ok : goal.returns-in-Ok
returns-in-Ok c =
    branch_seen c.args.project.now c.draft.result.now c.draft.ensures.value c.draft.ensures.sound c.args.name c.args.branch _ c.in-Ok.ensures.place c.in-Ok.ensures.within
