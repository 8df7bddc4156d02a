use Rattle.std.proofs.Common.{◌≡◌, arith, sym}
use Rattle.std.proofs.lemmas.Result.{err_from_is_err_and}
use Rattle.loom_topology.specs.Table.{cell_at}
use Rattle.loom_potential.specs.FirstBreak.{first_parts, is_first_part, split_check, split_checks}
use Rattle.loom_potential.proofs.Checks.{passed-first, passed-next, passed-stops}
use Rattle.loom_potential.proofs.FirstParts.{first_part_some}
use Rattle.loom_potential.proofs.inequalities.test_splits.Goals as goal

pub loop-part-init : goal.loop-part-init
loop-part-init c = record {
  is_part = c.first_part-part.ensures.is_part;
  from = first_part_some c.args.mask c.first_part-part.result c.first_part-part.ensures.is_part;
  within = c.first_part-part.ensures.within;
  passed = passed-first (split_check c.args.topology.now (cell_at c.args.table.now) c.args.mask c.args.node.0)
      (is_first_part c.args.mask) c.first_part-part.result c.first_part-part.ensures.least;
}

pub returns-in_err-test_split : goal.returns-in_err-test_split
unfolding split_checks first_parts
returns-in_err-test_split c =
    let p = err_from_is_err_and c.from_residual.result c.from_residual.ensures.1 in
    rw (p.1, p.2)
    (sym (passed-stops (split_check c.args.topology.now (cell_at c.args.table.now) c.args.mask c.args.node.0) (is_first_part c.args.mask)
    c.loop-part.part c.args.mask _ c.loop-part.invariant.from c.loop-part-test.true
    c.loop-part.invariant.is_part c.loop-part.invariant.passed (sym c.in_err-test_split.ensures)))

pub loop-part-preserved : goal.loop-part-preserved
loop-part-preserved c = record {
  is_part = c.next_part-part.ensures.is_part;
  from = omega (arith, c.next_part-part.ensures.greater);
  within = c.next_part-part.ensures.within;
  passed = passed-next (split_check c.args.topology.now (cell_at c.args.table.now) c.args.mask c.args.node.0)
      (is_first_part c.args.mask) c.loop-part.part c.next_part-part.result c.loop-part.invariant.from
      c.next_part-part.ensures.greater c.loop-part.invariant.is_part c.next_part-part.ensures.least
      c.loop-part.invariant.passed (sym c.in_ok-test_split.ensures);
}

pub returns : goal.returns
unfolding split_checks first_parts
returns c =
    let last : c.loop-part.part ≡ c.args.mask = omega (arith, c.loop-part.invariant.within, c.loop-part-test.false) in
    sym (rw last at c.loop-part.invariant.passed)
