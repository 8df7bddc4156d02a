use Rattle.std.proofs.Common.{◌++◌, ◌∷◌, [], ap, sym, ◌∙◌}
use Rattle.std.proofs.lemmas.Result.{err_from_is_err_and}
use Rattle.loom_project.specs.Sound.{cavities_check}
use Rattle.loom_base.proofs.EachLemmas.{list_stops, each_next, map_next}
use Rattle.loom_project.proofs.TopologyLemmas.{cavity_added}
use Rattle.loom_project.proofs.cavities.add_cavities.Goals as goal

pub returns-in_err-node-clause-gives : goal.returns-in_err-node-clause-gives
unfolding cavities_check
returns-in_err-node-clause-gives c =
    let p = err_from_is_err_and c.from_residual-in_err-node.result c.from_residual-in_err-node.ensures.1 in
    rw (p.1, p.2) (λ fresh. list_stops _ _ _ _ _ _ c.in_ok-within_limit.ensures.check c.cavity-item.is c.loop-cavity-test.true c.loop-cavity.invariant.passed
    (rw (← c.loop-cavity.invariant.names) (c.in_err-node.ensures.gives fresh)))

pub loop-cavity-preserved : goal.loop-cavity-preserved
loop-cavity-preserved c = record {
  names = c.in_ok-node.ensures.taken ∙ ap (λ names. names ++ c.cavity-item.result.name ∷ []) c.loop-cavity.invariant.names
      ∙ sym (map_next (λ cavity. cavity.name) _ _ _ c.cavity-item.is c.loop-cavity-test.true);
  topology = cavity_added _ _ c.args.topology.now _ _ _ _ _ c.cavity-item.is c.loop-cavity-test.true c.loop-cavity.invariant.topology c.in_ok-node.ensures.node c.in_ok-add_cavity.ensures.added;
  passed = each_next _ _ _ _ c.cavity-item.is c.loop-cavity-test.true c.loop-cavity.invariant.passed
      (rw (← c.loop-cavity.invariant.names) c.in_ok-node.ensures.gives);
}
