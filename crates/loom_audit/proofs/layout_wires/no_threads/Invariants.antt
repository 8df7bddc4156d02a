use Rattle.std.proofs.Common.{◌≡◌, [], replicate}
use Rattle.loom_audit.specs.Threads.{waiting}
use Rattle.loom_audit.proofs.layout_wires.no_threads.Given as goal

abbrev pub invariant-loop : goal.invariant-loop
invariant-loop l = waiting l.stacks.items ≡ replicate l.counter []
