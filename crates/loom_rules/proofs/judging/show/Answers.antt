use Rattle.std.proofs.Common.{◌∙◌}
use Rattle.loom_rules.proofs.Shown.{front-take, shown-more}
use Rattle.loom_rules.proofs.judging.show.Goals as goal

pub returns-in_err-show_one-clause-front : goal.returns-in_err-show_one-clause-front
returns-in_err-show_one-clause-front g c =
    front-take c.args.wires.now c.loop-wire.wire-index _ (c.in_err-show_one.ensures.err ∙ c.loop-wire.invariant.first)

pub loop-wire-preserved : goal.loop-wire-preserved
loop-wire-preserved g c = record {
  same_kind = c.show_one.ensures.kind ∙ c.loop-wire.invariant.same_kind;
  same_limit = c.show_one.ensures.limit ∙ c.loop-wire.invariant.same_limit;
  first =
      shown-more c.args.wires.now c.loop-wire.wire-index c.wire-item.result _ _ c.loop-wire-test.true c.wire-item.is
      c.loop-wire.invariant.first c.in_ok-show_one.ensures.ok;
}
