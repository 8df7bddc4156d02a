use Rattle.std.proofs.Common.{◌^◌, ◌<◌, ◌∙◌, sym, arith}
use Rattle.std.specs.Int.Bits.{and_self}
use Rattle.loom_topology.specs.Topology.{branch_at}
use Rattle.loom_topology.specs.Table.{cell_at}
use Rattle.loom_layout.proofs.Splitting.{others_of, rest_at_most, rest_below, first_part, rest_next, no_split_before, no_split_next, no_split_at_all, same_cost, other_cost, parts_cost, tied_parts}
use Rattle.loom_layout.proofs.rule.least_split.Goals as goal

pub loop-rest-init : goal.loop-rest-init
loop-rest-init c =
    let fits : c.args.mask < 2 ^ 32 = omega arith in
    record {
      within = and_self (others_of c.args.mask);
      none = no_split_before c.args.mask c.requires.mask.0 fits c.args.topology.now (cell_at c.args.table.now) c.args.node.0;
    }

pub overflow_sub-part : goal.overflow_sub-part
overflow_sub-part c =
    let fits : c.args.mask < 2 ^ 32 = omega arith in
    rest_at_most c.args.mask c.requires.mask.0 fits c.loop-rest.rest c.loop-rest.invariant.within

pub cost_of_parts-requires-clause-part : goal.cost_of_parts-requires-clause-part
cost_of_parts-requires-clause-part c =
    let fits : c.args.mask < 2 ^ 32 = omega arith in
    let less = rest_below c.args.mask c.requires.mask.0 fits c.loop-rest.rest c.loop-rest.invariant.within in
    (omega (arith, less), omega (arith, c.requires.mask.1))

pub cost_of_parts-requires-clause-rest : goal.cost_of_parts-requires-clause-rest
cost_of_parts-requires-clause-rest c =
    let fits : c.args.mask < 2 ^ 32 = omega arith in
    let less = rest_below c.args.mask c.requires.mask.0 fits c.loop-rest.rest c.loop-rest.invariant.within in
    (omega (arith, c.loop-rest-test.true), omega (arith, less, c.requires.mask.1))

pub returns-then-eq : goal.returns-then-eq
returns-then-eq c =
    let fits : c.args.mask < 2 ^ 32 = omega arith in
    let at_most = rest_at_most c.args.mask c.requires.mask.0 fits c.loop-rest.rest c.loop-rest.invariant.within in
    record {
      holds = (
        first_part c.args.mask c.requires.mask.0 fits c.loop-rest.rest c.loop-rest.invariant.within c.loop-rest-test.true,
        (
          c.args.cost,
          parts_cost (cell_at c.args.table.now) c.args.mask c.loop-rest.rest c.args.node.0 (branch_at c.args.topology.now c.args.node.0)
              c.args.cost at_most
              (sym c.cost_of_parts.ensures ∙ same_cost c.cost_of_parts.result c.args.cost (sym c.eq.ensures ∙ c.if-eq.true)),
          c.requires.cost,
        ),
      );
      least = c.loop-rest.invariant.none;
    }

pub loop-rest-preserved : goal.loop-rest-preserved
loop-rest-preserved c =
    let fits : c.args.mask < 2 ^ 32 = omega arith in
    let at_most = rest_at_most c.args.mask c.requires.mask.0 fits c.loop-rest.rest c.loop-rest.invariant.within in
    record {
      within = rest_next c.loop-rest.rest (others_of c.args.mask);
      none = no_split_next c.args.mask c.requires.mask.0 fits c.args.topology.now (cell_at c.args.table.now) c.args.node.0
          c.loop-rest.rest c.loop-rest.invariant.within
          (λ splits. other_cost c.cost_of_parts.result c.args.cost (sym c.eq.ensures ∙ c.if-eq.false)
          (c.cost_of_parts.ensures
          ∙ tied_parts c.args.topology.now (cell_at c.args.table.now) c.args.mask c.loop-rest.rest c.args.node.0 c.args.cost at_most
          c.requires.cost splits))
          c.loop-rest.invariant.none;
    }

pub returns : goal.returns
returns c =
    let fits : c.args.mask < 2 ^ 32 = omega arith in
    no_split_at_all c.args.mask c.requires.mask.0 fits c.args.topology.now (cell_at c.args.table.now) c.args.node.0
    c.loop-rest.rest c.loop-rest-test.false c.loop-rest.invariant.none
