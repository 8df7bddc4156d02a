use Rattle.std.proofs.Common.{refl, sym, ◌∙◌, arith}
use Rattle.std.proofs.lemmas.Bool.{false≢true}
use Rattle.loom_audit.specs.LayoutRule.{IsSameModule}
use Rattle.loom_audit.proofs.Differences.{agree_more, differ_apart}
use Rattle.loom_audit.proofs.module_lines.first_difference.Goals as goal

pub returns-then-not-is_same_module-clause-fails : goal.returns-then-not-is_same_module-clause-fails
returns-then-not-is_same_module-clause-fails c =
    differ_apart IsSameModule c.args.stated.now c.args.printed.now c.loop-at.at c.index-stated-at.result c.index-printed-at.result
    (omega (arith, c.loop-at-test.true, c.min-both.ensures)) (omega (arith, c.loop-at-test.true, c.min-both.ensures)) c.loop-at.invariant
    (λ p. absurd (false≢true (c.if-not-is_same_module.ensures.1 (c.index-stated-at.is ∙ p ∙ sym c.index-printed-at.is))))

pub loop-at-preserved : goal.loop-at-preserved
loop-at-preserved c =
    agree_more IsSameModule c.args.stated.now c.args.printed.now c.loop-at.at c.index-stated-at.result c.index-printed-at.result
    (omega (arith, c.loop-at-test.true, c.min-both.ensures)) (omega (arith, c.loop-at-test.true, c.min-both.ensures)) c.loop-at.invariant
    (sym c.index-stated-at.is ∙ c.if-not-is_same_module.ensures.0 refl ∙ c.index-printed-at.is)
