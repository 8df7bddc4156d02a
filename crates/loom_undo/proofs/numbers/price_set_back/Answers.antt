use Rattle.std.proofs.Common.{sym, ◌∙◌}
use Rattle.loom_undo.proofs.NumbersBack.{price_sets_back}
use Rattle.loom_undo.proofs.numbers.price_set_back.Goals as goal

pub returns : goal.returns
returns c =
    price_sets_back c.args.draft.now c.args.price (record { 0 = c.args.at }) c.in_ok-segment.segment.now c.in_ok-segment.ensures.value c.in_ok-segment.ensures.within
    (sym c.is_coupler.ensures ∙ c.if-not-is_coupler.false)
