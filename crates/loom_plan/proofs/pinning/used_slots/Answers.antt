use Rattle.std.proofs.Common.{◌<◌, ap, sym, subst, length, List, Err}
use Rattle.std.specs.List.{All}
use Rattle.loom_rows.specs.Table.{Has}
use Rattle.loom_active.specs.LiveWork.{live_worked}
use Rattle.loom_laid.specs.declared.laid_set.LaidSet.{LaidSet}
use Rattle.loom_plan.proofs.LaidLive.{laid_kept}
use Rattle.loom_plan.proofs.WireSets.{nets_within, segments_within, all_had}
use Rattle.loom_plan.proofs.StepStops.{rows_stop_slots}
use Rattle.loom_plan.proofs.pinning.used_slots.Goals as goal

pub slots-requires-clause-nets : goal.slots-requires-clause-nets
slots-requires-clause-nets c =
    subst (λ (l : List LaidSet). All (λ set. set.net.0 < length c.args.project.now.nets) l) (sym c.as_slice.ensures)
    (nets_within c.args.project.now c.has_sound_topologies.ensures c.args.rows.now c.args.laid.now c.requires.laid)

pub slots-requires-clause-segments : goal.slots-requires-clause-segments
slots-requires-clause-segments c =
    subst (λ (l : List LaidSet). All (λ set. All (λ step. step.1.0 < length c.args.project.now.segments) set.layout.steps) l) (sym c.as_slice.ensures)
    (segments_within c.args.project.now c.has_sound_topologies.ensures c.args.rows.now c.args.laid.now c.requires.laid)

pub slots-requires-clause-has : goal.slots-requires-clause-has
slots-requires-clause-has c =
    subst (λ (l : List LaidSet). All (λ set. Has c.args.rows.now set.cond) l) (sym c.as_slice.ensures)
    (all_had c.args.project.now c.has_sound_topologies.ensures c.args.rows.now c.args.laid.now c.requires.laid)

pub returns-in-Ok-clause-laid : goal.returns-in-Ok-clause-laid
returns-in-Ok-clause-laid c = laid_kept c.args.project.now c.args.rows.now c.slots.new.rows c.args.laid.now c.slots.ensures.keeps c.requires.laid

pub returns-in-Err-TooManyRows-clause-stop : goal.returns-in-Err-TooManyRows-clause-stop
returns-in-Err-TooManyRows-clause-stop c =
    rows_stop_slots c.args.project.now c.args.rows.now c.args.laid.now c.as_slice.result.now c.as_slice.ensures c.requires.job.limit c.requires.laid
    (c.in-Err-TooManyRows.ensures.many_rows (live_worked c.args.project.now) c.requires.job.stands (ap Err c.in-Err-TooManyRows.field-0-is))
