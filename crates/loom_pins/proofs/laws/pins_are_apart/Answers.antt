use Rattle.loom_pins.proofs.Outcomes.{slots_used_together_are_apart, pins_are_open}
use Rattle.loom_pins.proofs.laws.pins_are_apart.Goals as goal

pub returns-clause-apart : goal.returns-clause-apart
returns-clause-apart c = slots_used_together_are_apart

pub returns-clause-open_to_all : goal.returns-clause-open_to_all
returns-clause-open_to_all c = pins_are_open
