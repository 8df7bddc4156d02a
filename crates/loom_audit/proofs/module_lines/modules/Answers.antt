use Rattle.std.proofs.Common.{◌≤◌, ◌∙◌, rules}
use Rattle.std.proofs.lemmas.List.Sorted.{All-permutation, IsNonDecreasingBy-from_sort_by_key, answers_always}
use Rattle.loom_audit.specs.Grouping.{greatest_harness}
use Rattle.loom_audit.proofs.HarnessOrder.{modules_are}
use Rattle.loom_audit.proofs.module_lines.modules.Goals as goal

pub returns : goal.returns
returns c =
    let topology = c.args.topology.now in
    c.from_vec.ensures
    ∙ modules_are topology c.args.wires.now c.in_ok-modules.modules.items c.sort_by_key.new.self.items c.in_ok-modules.ensures
    (IsNonDecreasingBy-from_sort_by_key (λ m. m.harness) _ c.in_ok-sort_by_key.ensures.sorted (λ a r q k. search rules))
    (c.in_ok-sort_by_key.ensures.stable (λ m. m.harness) (answers_always _ _ _ (λ f a r g h. search rules)))
    (All-permutation (λ m. m.harness ≤ greatest_harness topology) _ _ c.in_ok-sort_by_key.ensures.permutation c.in_ok-modules.ensures.known)
