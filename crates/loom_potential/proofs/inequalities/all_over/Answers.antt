use Rattle.std.proofs.Common.{refl, arith}
use Rattle.std.proofs.lemmas.Bool.{false≢true}
use Rattle.loom_topology.specs.Table.{cell_at}
use Rattle.loom_potential.proofs.WayEnds.{way_from_below, way_to_below, way_price_below}
use Rattle.loom_potential.proofs.OverWays.{over_from_ways, ways_from_over}
use Rattle.loom_potential.proofs.inequalities.all_over.Goals as goal

pub holds_over-requires-clause-from : goal.holds_over-requires-clause-from
holds_over-requires-clause-from c =
    omega (arith, c.requires.nodes, way_from_below c.args.topology.now c.args.ways.now c.loop-way.way-index c.requires.sound c.requires.ways c.loop-way-test.true)

pub holds_over-requires-clause-to : goal.holds_over-requires-clause-to
holds_over-requires-clause-to c =
    omega (arith, c.requires.nodes, way_to_below c.args.topology.now c.args.ways.now c.loop-way.way-index c.requires.sound c.requires.ways c.loop-way-test.true)

pub holds_over-requires-clause-price : goal.holds_over-requires-clause-price
holds_over-requires-clause-price c =
    way_price_below c.args.topology.now c.args.ways.now c.loop-way.way-index c.requires.sound c.requires.ways c.loop-way-test.true

pub returns-then-not-holds_over : goal.returns-then-not-holds_over
returns-then-not-holds_over c = (
  λ told. absurd (false≢true told),
  λ passed. c.if-not-holds_over.ensures.1
      (ways_from_over c.args.topology.now c.args.ways.now (cell_at c.args.table.now) c.args.mask c.loop-way.way-index c.requires.sound
      c.requires.ways passed c.loop-way-test.true),
)

pub returns : goal.returns
returns c = (
  λ told v below. over_from_ways c.args.topology.now c.args.ways.now (cell_at c.args.table.now) c.args.mask v c.requires.ways
      (λ k within. c.loop-way.invariant k (omega (arith, within, c.loop-way-test.false))),
  λ passed. refl,
)
