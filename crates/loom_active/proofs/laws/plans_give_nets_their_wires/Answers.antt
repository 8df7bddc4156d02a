use Rattle.loom_active.proofs.PlanJoins.{plans_give_nets_their_wires, plans_leave_idle_nets_bare}
use Rattle.loom_active.proofs.laws.plans_give_nets_their_wires.Goals as goal

pub returns-clause-sets : goal.returns-clause-sets
returns-clause-sets c = plans_give_nets_their_wires

pub returns-clause-idle : goal.returns-clause-idle
returns-clause-idle c = plans_leave_idle_nets_bare
