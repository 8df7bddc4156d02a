use Rattle.loom_types.proofs.LayoutLaws.{layout_wires_are_routed}
use Rattle.loom_types.proofs.laws.layout_wires_are_routed.Goals as goal

pub returns : goal.returns
returns c = layout_wires_are_routed
