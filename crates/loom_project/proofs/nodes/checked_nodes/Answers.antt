use Rattle.std.proofs.Common.{◌++◌, ◌∷◌, [], ap, sym, ◌∙◌, arith}
use Rattle.std.proofs.lemmas.Result.{err_from_is_err_and}
use Rattle.loom_formula.specs.NameIndex.{with_name}
use Rattle.loom_project.specs.Sound.{nodes_check}
use Rattle.loom_base.proofs.EachLemmas.{list_stops, each_next, map_next}
use Rattle.loom_project.proofs.NameLemmas.{length-harnesses, harnesses_next}
use Rattle.loom_project.proofs.TopologyLemmas.{node_added}
use Rattle.loom_project.proofs.nodes.checked_nodes.Goals as goal

pub returns-in_err-check_node-clause-gives : goal.returns-in_err-check_node-clause-gives
unfolding nodes_check
returns-in_err-check_node-clause-gives c =
    let p = err_from_is_err_and c.from_residual-in_err-check_node.result c.from_residual-in_err-check_node.ensures.1 in
    rw (p.1, p.2) (λ fresh. list_stops _ _ _ _ _ _ c.in_ok-within_limit.ensures.check c.node-item.is c.loop-node-test.true c.loop-node.invariant.passed
    (rw (← c.loop-node.invariant.names) (c.in_err-check_node.ensures.gives fresh)))

pub label_number-requires : goal.label_number-requires
label_number-requires c =
    rw c.loop-node.invariant.harnesses (omega (arith, length-harnesses c.args.nodes.now c.loop-node.node-index, c.in_ok-within_limit.ensures.within))

pub loop-node-preserved : goal.loop-node-preserved
loop-node-preserved c = record {
  names = c.in_ok-check_node.ensures.taken ∙ ap (λ names. names ++ c.node-item.result.name ∷ []) c.loop-node.invariant.names
      ∙ sym (map_next (λ node. node.name) _ _ _ c.node-item.is c.loop-node-test.true);
  harnesses = c.in_ok-harness.ensures.added ∙ ap (λ labels. with_name labels c.node-item.result.harness) c.loop-node.invariant.harnesses
      ∙ sym (harnesses_next _ _ _ c.node-item.is c.loop-node-test.true);
  topology = node_added _ _ _ _ _ _ _ c.node-item.is c.loop-node-test.true c.loop-node.invariant.topology c.in_ok-harness.ensures.number
      (c.in_ok-harness.ensures.added ∙ ap (λ labels. with_name labels c.node-item.result.harness) c.loop-node.invariant.harnesses) c.in_ok-add_node.ensures.added;
  passed = each_next _ _ _ _ c.node-item.is c.loop-node-test.true c.loop-node.invariant.passed
      (rw (← c.loop-node.invariant.names) c.in_ok-check_node.ensures.gives);
}
