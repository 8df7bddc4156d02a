use Rattle.std.proofs.Common.{◌≡◌, ◌≤◌, take, Ok}
use Rattle.loom_base.specs.First.{each}
use Rattle.loom_project.specs.Draft.{rule_nodes}
use Rattle.loom_project.specs.Sound.{formula_check}
use Rattle.loom_project.proofs.formulas.checked_rules.Given as goal

abbrev pub invariant-loop-rule : goal.invariant-loop-rule
invariant-loop-rule l = record {
  counted : l.count.nodes ≡ rule_nodes (take l.rule-index l.rules);
  few : l.count.nodes ≤ 65536;
  passed : each (λ before rule. formula_check l.options (rule_nodes before) rule) (take l.rule-index l.rules) ≡ Ok tt;
}
