use Rattle.std.proofs.Common.{◌∙◌, ap, ◌==◌}
use Rattle.std.specs.List.{list_any}
use Rattle.std.specs.Ordering.{nat_cmp}
use Rattle.std.specs.BTreeMap.{get}
use Rattle.std.proofs.lemmas.List.{take_all}
use Rattle.loom_rules.proofs.TallySteps.{noted-more, noted_if}
use Rattle.loom_rules.proofs.crowded_segment.note_route.Goals as goal

pub note-requires-clause-kept : goal.note-requires-clause-kept
note-requires-clause-kept c = c.loop-segment.invariant.kept

pub loop-segment-preserved : goal.loop-segment-preserved
loop-segment-preserved c =
    noted-more c.args.number c.args.route.now c.loop-segment.segment-index _ (get nat_cmp c.args.tallies.now)
    (get nat_cmp c.loop-segment.tallies) (get nat_cmp c.note.new.tallies) c.loop-segment-test.true c.loop-segment.invariant
    c.in_ok-note.ensures.noted c.in_ok-note.ensures.kept

pub returns-clause-noted : goal.returns-clause-noted
returns-clause-noted c = λ q.
    c.loop-segment.invariant.noted_there q
    ∙ ap (λ l. noted_if (list_any (λ t. t.0 == q) l) c.args.number (get nat_cmp c.args.tallies.now q))
    (take_all c.loop-segment.segment-index c.args.route.now c.loop-segment-test.false)
