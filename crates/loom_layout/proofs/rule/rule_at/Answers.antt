use Rattle.std.proofs.Common.{◌<◌, length, map, sym, ◌∙◌}
use Rattle.std.proofs.lemmas.Bool.{some_since}
use Rattle.std.proofs.lemmas.List.Elements.{All-map}
use Rattle.loom_topology.specs.Table.{cell_at}
use Rattle.loom_topology.proofs.Raised.{a_rule_applies}
use Rattle.loom_layout.proofs.rule.rule_at.Goals as goal

pub unwrap-step-requires : goal.unwrap-step-requires
unwrap-step-requires c =
    some_since c.lowest_step.result _ _ c.lowest_step.ensures
    (a_rule_applies c.args.topology.now (map (λ x. x.0) c.args.terminals.now) (cell_at c.args.table.now) c.args.mask c.args.node.0
    c.unwrap-cost.result c.requires.sound
    (All-map (λ x. x < length c.args.topology.now.cavities) (λ x. x.0) c.args.terminals.now c.requires.in_range)
    c.requires.table.least c.requires.mask c.requires.node (sym c.cell.ensures.value ∙ c.unwrap-cost.ensures)
    c.in_default.ensures c.in_default-least_split.ensures)
