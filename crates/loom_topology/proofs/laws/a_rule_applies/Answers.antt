use Rattle.loom_topology.proofs.Tied.{some_rule_applies}
use Rattle.loom_topology.proofs.laws.a_rule_applies.Goals as goal

pub returns : goal.returns
returns c = some_rule_applies
