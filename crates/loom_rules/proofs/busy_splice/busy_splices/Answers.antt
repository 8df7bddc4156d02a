use Rattle.std.proofs.Common.{◌∙◌, ap}
use Rattle.std.specs.Map.Iter.{deref_pair}
use Rattle.std.proofs.lemmas.Map.Iter.{rest_all}
use Rattle.loom_rules.proofs.Picked.{picked}
use Rattle.loom_rules.proofs.FoundBy.{busy-done, is_more, busy_finding}
use Rattle.loom_rules.proofs.busy_splice.busy_splices.Goals as goal

pub returns : goal.returns
returns c =
    let h = c.into_iter-splice-iterator.ensures.into_iter_gives in
    busy-done c.args.limit c.args.wires.now c.in_ok-tallies.tallies c.loop-splice.splice-iterator c.loop-splice.found
    (rest_all deref_pair c.loop-splice.splice-iterator c.next.new.self c.next.result c.in-None.is c.next.ensures.steps)
    (c.loop-splice.invariant ∙ ap (picked (is_more c.args.limit) busy_finding) h.0) h.5 c.in_ok-tallies.ensures
