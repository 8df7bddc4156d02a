use Rattle.std.proofs.Common.{◌≡◌, arith, refl}
use Rattle.loom_topology.specs.Table.{cell_at}
use Rattle.loom_potential.specs.FirstBreak.{first_parts, is_first_part, split_check, split_checks}
use Rattle.loom_potential.proofs.Checks.{passed-first, passed-next}
use Rattle.loom_potential.proofs.FirstParts.{first_part_some}
use Rattle.loom_potential.proofs.inequalities.all_split.Goals as goal

pub loop-part-init : goal.loop-part-init
loop-part-init c = record {
  is_part = c.first_part-part.ensures.is_part;
  from = first_part_some c.args.mask c.first_part-part.result c.first_part-part.ensures.is_part;
  within = c.first_part-part.ensures.within;
  passed = λ v below. passed-first (split_check c.args.topology.now (cell_at c.args.table.now) c.args.mask v)
      (is_first_part c.args.mask) c.first_part-part.result c.first_part-part.ensures.least;
}

pub loop-part-preserved : goal.loop-part-preserved
loop-part-preserved c = record {
  is_part = c.next_part-part.ensures.is_part;
  from = omega (arith, c.next_part-part.ensures.greater);
  within = c.next_part-part.ensures.within;
  passed = λ v below. passed-next (split_check c.args.topology.now (cell_at c.args.table.now) c.args.mask v)
      (is_first_part c.args.mask) c.loop-part.part c.next_part-part.result c.loop-part.invariant.from
      c.next_part-part.ensures.greater c.loop-part.invariant.is_part c.next_part-part.ensures.least
      (c.loop-part.invariant.passed v below) (c.if-not-all_split_by.ensures refl v below);
}

pub returns : goal.returns
unfolding split_checks first_parts
returns c told v below =
    let last : c.loop-part.part ≡ c.args.mask = omega (arith, c.loop-part.invariant.within, c.loop-part-test.false) in
    rw last at (c.loop-part.invariant.passed v below)
