use Rattle.std.proofs.Common.{drop}
use Rattle.loom_audit.specs.SetWires.{wires_at}
use Rattle.loom_audit.proofs.WireCosts.{IsCounted}
use Rattle.loom_audit.proofs.wires_cost.wires_cost.Given as goal

abbrev pub invariant-loop-k : goal.invariant-loop-k
invariant-loop-k l = IsCounted l.topology (wires_at l.plan (drop l.k l.positions)) l.counts l.cost
