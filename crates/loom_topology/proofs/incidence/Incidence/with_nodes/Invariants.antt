use Rattle.std.proofs.Common.{◌≡◌, [], replicate}
use Rattle.loom_topology.proofs.incidence.Incidence.with_nodes.Given as goal

abbrev pub invariant-loop : goal.invariant-loop
invariant-loop l = l.incidence ≡ replicate l.counter []
