use Rattle.loom_layout.proofs.Nodes.{nodes_fix_layouts, nodes_fix_least_costs}
use Rattle.loom_layout.proofs.laws.nodes_fix_layouts.Goals as goal

pub returns-clause-layouts : goal.returns-clause-layouts
returns-clause-layouts c = λ one other terminals others least mask layout alike same.
    nodes_fix_layouts one other alike terminals others least same mask layout

pub returns-clause-least_costs : goal.returns-clause-least_costs
returns-clause-least_costs c = nodes_fix_least_costs
