use Rattle.loom_types.proofs.LayoutLaws.{layout_wires_end_at_pins}
use Rattle.loom_types.proofs.laws.layout_wires_end_at_pins.Goals as goal

pub returns : goal.returns
returns c = layout_wires_end_at_pins
