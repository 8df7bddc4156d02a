use Rattle.loom_edits.proofs.NumberLemmas.{length_seen}
use Rattle.loom_edits.proofs.numbers.length_set.Goals as goal

pub returns-in-Ok : goal.returns-in-Ok
returns-in-Ok c =
    length_seen c.args.project.now c.draft-draft.result.now c.draft-draft.ensures.value c.draft-draft.ensures.sound c.args.name c.args.length _ c.in_ok-at.ensures.place c.in_ok-at.ensures.within c.in-Ok.ensures
