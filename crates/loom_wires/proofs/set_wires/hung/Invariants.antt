use Rattle.loom_wires.specs.Threads.{waiting}
use Rattle.loom_wires.specs.Wires.{others_of}
use Rattle.loom_wires.proofs.HungSteps.{IsHungFrom}
use Rattle.loom_wires.proofs.set_wires.hung.Given as goal

abbrev pub invariant-loop-k : goal.invariant-loop-k
invariant-loop-k l =
    IsHungFrom (others_of l.set) l.set.layout.hangs l.point_count l.k (waiting l.stacks.items)
