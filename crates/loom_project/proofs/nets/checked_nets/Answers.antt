use Rattle.std.proofs.Common.{◌++◌, ◌∷◌, [], map, ap, sym, ◌∙◌, arith}
use Rattle.std.proofs.lemmas.Result.{err_from_is_err_and}
use Rattle.loom_project.specs.Draft.{terminal_nodes}
use Rattle.loom_project.specs.Project.{terminal_places}
use Rattle.loom_project.specs.Sound.{nets_check}
use Rattle.loom_base.proofs.EachLemmas.{list_stops, each_next, map_next, made_next}
use Rattle.loom_project.proofs.FormulaLemmas.{sum_next}
use Rattle.loom_project.proofs.nets.checked_nets.Goals as goal

pub returns-in_err-checked_net-clause-gives : goal.returns-in_err-checked_net-clause-gives
unfolding nets_check
returns-in_err-checked_net-clause-gives c =
    let p = err_from_is_err_and c.from_residual-in_err-checked_net.result c.from_residual-in_err-checked_net.ensures.1 in
    rw (p.1, p.2) (λ fresh. list_stops _ _ _ _ _ _ c.in_ok-within_limit.ensures.check c.net-item.is c.loop-net-test.true c.loop-net.invariant.passed
    (rw (← c.loop-net.invariant.counted, ← c.loop-net.invariant.taken) (c.in_err-checked_net.ensures.gives fresh)))

pub loop-net-preserved : goal.loop-net-preserved
loop-net-preserved c = record {
  taken = c.in_ok-checked_net.ensures.taken ∙ ap (λ names. names ++ c.net-item.result.name ∷ []) c.loop-net.invariant.taken
      ∙ sym (map_next (λ net. net.name) _ _ _ c.net-item.is c.loop-net-test.true);
  counted = omega (
    arith,
    c.in_ok-checked_net.ensures.counted,
    c.loop-net.invariant.counted,
    sum_next (λ net. terminal_nodes net.terminals) c.args.nets.now c.loop-net.net-index c.net-item.result c.net-item.is c.loop-net-test.true,
  );
  few = c.in_ok-checked_net.ensures.few;
  places = made_next (map (λ cavity. cavity.0)) (λ net. terminal_places c.args.cavities.now net.terminals) _ _ _ _ _ _ c.net-item.is c.loop-net-test.true
      c.loop-net.invariant.places c.in_ok-checked_net.ensures.places c.in_ok-push.ensures.ok;
  passed = each_next _ _ _ _ c.net-item.is c.loop-net-test.true c.loop-net.invariant.passed
      (rw (← c.loop-net.invariant.counted, ← c.loop-net.invariant.taken) c.in_ok-checked_net.ensures.gives);
}
