use Rattle.loom_pins.proofs.Outcomes.{pins_are_unique, first_without_is_unique}
use Rattle.loom_pins.proofs.laws.outcome_is_unique.Goals as goal

pub returns-clause-pins : goal.returns-clause-pins
returns-clause-pins c = pins_are_unique

pub returns-clause-without : goal.returns-clause-without
returns-clause-without c = first_without_is_unique
