use Rattle.std.proofs.Common.{◌∙◌, ap}
use Rattle.std.specs.Map.Iter.{deref_pair}
use Rattle.std.proofs.lemmas.Map.Iter.{rest_all}
use Rattle.loom_rules.proofs.Picked.{picked}
use Rattle.loom_rules.proofs.FoundBy.{crowded-done, is_more, crowded_finding}
use Rattle.loom_rules.proofs.crowded_segment.crowded_segments.Goals as goal

pub returns : goal.returns
returns c =
    let h = c.into_iter-segment-iterator.ensures.into_iter_gives in
    crowded-done c.args.limit c.args.wires.now c.in_ok-tallies.tallies c.loop-segment.segment-iterator c.loop-segment.found
    (rest_all deref_pair c.loop-segment.segment-iterator c.next.new.self c.next.result c.in-None.is c.next.ensures.steps)
    (c.loop-segment.invariant ∙ ap (picked (is_more c.args.limit) crowded_finding) h.0) h.5 c.in_ok-tallies.ensures
