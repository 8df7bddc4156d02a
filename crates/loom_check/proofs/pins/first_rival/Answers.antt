use Rattle.std.proofs.Common.{sym, subst, refl, arith, ◌∙◌, get_or}
use Rattle.std.proofs.lemmas.Bool.{false≢true}
use Rattle.loom_rows.specs.RowLists.{AreConditionsOf}
use Rattle.loom_rows.specs.Table.{Table}
use Rattle.loom_check.proofs.PinClashes.{rivals-more, rivals-first, rivals-all}
use Rattle.loom_check.proofs.pins.first_rival.Goals as goal

pub is_rival-requires-clause-conds : goal.is_rival-requires-clause-conds
is_rival-requires-clause-conds c =
    subst (λ (t : Table). AreConditionsOf c.args.plan.now.rows t c.args.conds.now) (sym c.loop-other.invariant.unchanged) c.requires.conds

pub returns-then-branch-clause-least : goal.returns-then-branch-clause-least
returns-then-branch-clause-least c =
    rivals-first c.args.plan.now c.args.at c.args.wire.now c.args.others.now c.loop-other.other-index
    (get_or c.args.others.now c.loop-other.other-index 0) c.loop-other-test.true refl c.loop-other.invariant.none c.requires.rising
    (c.in_ok-is_rival.ensures.rival.0 c.if-branch.true)

pub loop-other-preserved : goal.loop-other-preserved
loop-other-preserved c = record {
  unchanged = c.in_ok-is_rival.ensures.unchanged ∙ c.loop-other.invariant.unchanged;
  none =
      rivals-more c.args.plan.now c.args.at c.args.wire.now c.args.others.now c.loop-other.other-index
      (get_or c.args.others.now c.loop-other.other-index 0) c.loop-other-test.true refl c.loop-other.invariant.none
      (λ rival. false≢true (sym c.if-branch.false ∙ c.in_ok-is_rival.ensures.rival.1 rival));
}

pub returns-clause-least : goal.returns-clause-least
returns-clause-least c =
    λ n among. rivals-all c.args.plan.now c.args.at c.args.wire.now c.args.others.now c.loop-other.other-index (omega (arith, c.loop-other-test.false))
    c.loop-other.invariant.none n among
