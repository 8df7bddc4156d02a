use Rattle.loom_wires.proofs.UniqueWires.{wires_are_unique}
use Rattle.loom_wires.proofs.laws.wires_are_unique.Goals as goal

pub returns : goal.returns
returns c = wires_are_unique
