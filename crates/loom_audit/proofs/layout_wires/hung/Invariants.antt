use Rattle.loom_audit.specs.Threads.{waiting}
use Rattle.loom_audit.specs.CutSets.{others_of}
use Rattle.loom_audit.proofs.HungSteps.{IsHungFrom}
use Rattle.loom_audit.proofs.layout_wires.hung.Given as goal

abbrev pub invariant-loop-k : goal.invariant-loop-k
invariant-loop-k l =
    IsHungFrom (others_of l.set) l.set.layout.hangs l.point_count l.k (waiting l.stacks.items)
