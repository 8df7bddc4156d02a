use Rattle.std.proofs.Common.{◌≡◌, ◌<◌, ℕ, List, Ok, Some, length, get_or, slice_get, refl, sym, ap, subst, ◌∙◌, arith}
use Rattle.std.proofs.lemmas.Option.{slice_get_read}
use Rattle.loom_types.specs.declared.plan.TableLine.{TableLine}
use Rattle.loom_audit.specs.TableRule.{break_of}
use Rattle.loom_audit.proofs.Firsts.{before_more, each_from_before}
use Rattle.loom_check.proofs.TablesOfNets.{table-net, table-own}
use Rattle.loom_check.proofs.tables.first_illegal.Goals as goal

line_stands : (tables items : List TableLine) (at : ℕ) (line : TableLine) → items ≡ tables → at < length items → line ≡ get_or items at line → slice_get tables at ≡ Some line
line_stands tables items at line same within is =
    ap (λ (l : List TableLine). slice_get l at) (sym same) ∙ slice_get_read items (length items) at line refl within is

pub first_break-requires-clause-net : goal.first_break-requires-clause-net
first_break-requires-clause-net c =
    table-net c.args.project.now c.args.plan.now c.requires.sets c.requires.tables c.loop-at.at c.line-item.result
    (line_stands c.args.plan.now.tables c.as_slice-line-items.result.now c.loop-at.at c.line-item.result c.as_slice-line-items.ensures c.loop-at-test.true
    c.line-item.is)

pub first_break-requires-clause-table : goal.first_break-requires-clause-table
first_break-requires-clause-table c =
    table-own c.args.project.now c.args.plan.now c.requires.sets c.requires.tables c.loop-at.at c.line-item.result
    (line_stands c.args.plan.now.tables c.as_slice-line-items.result.now c.loop-at.at c.line-item.result c.as_slice-line-items.ensures c.loop-at-test.true
    c.line-item.is)

pub returns-in-Err-clause-fails : goal.returns-in-Err-clause-fails
returns-in-Err-clause-fails c = record {
  line = c.line-item.result;
  stands =
      line_stands c.args.plan.now.tables c.as_slice-line-items.result.now c.loop-at.at c.line-item.result c.as_slice-line-items.ensures
      c.loop-at-test.true c.line-item.is;
  breaks = sym c.in_ok-broken.ensures ∙ c.in-Err.is;
  before = c.loop-at.invariant;
}

pub loop-at-preserved : goal.loop-at-preserved
loop-at-preserved c =
    let line : TableLine = c.line-item.result in
    let is : line ≡ get_or c.args.plan.now.tables c.loop-at.at line = c.line-item.is ∙ ap (λ (l : List TableLine). get_or l c.loop-at.at line) c.as_slice-line-items.ensures in
    before_more (λ i l. break_of c.args.project.now l ≡ Ok tt) c.args.plan.now.tables c.loop-at.at line
    (omega (arith, c.loop-at-test.true, ap length c.as_slice-line-items.ensures)) c.loop-at.invariant
    (subst (λ (l : TableLine). break_of c.args.project.now l ≡ Ok tt) is (sym c.in_ok-broken.ensures ∙ c.in_default.is))

pub returns-clause-holds : goal.returns-clause-holds
returns-clause-holds c =
    each_from_before (λ i l. break_of c.args.project.now l ≡ Ok tt) c.args.plan.now.tables c.loop-at.at
    (omega (arith, c.loop-at-test.false, ap length c.as_slice-line-items.ensures)) c.loop-at.invariant
