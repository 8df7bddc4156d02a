use Rattle.std.proofs.Common.{sym, ◌∙◌}
use Rattle.loom_undo.proofs.NumbersBack.{length_sets_back}
use Rattle.loom_undo.proofs.numbers.length_set_back.Goals as goal

pub returns : goal.returns
returns c =
    length_sets_back c.args.draft.now c.args.length (record { 0 = c.args.at }) c.in_ok-segment.segment.now c.in_ok-segment.ensures.value c.in_ok-segment.ensures.within
    (sym c.is_coupler.ensures ∙ c.if-is_coupler.false)
