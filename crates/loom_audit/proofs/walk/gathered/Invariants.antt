use Rattle.std.proofs.Common.{◌≡◌, ◌++◌, map, vec_len}
use Rattle.loom_types.specs.LayoutWires.{finished}
use Rattle.loom_audit.specs.Threads.{newest_first}
use Rattle.loom_audit.proofs.walk.gathered.Given as goal

abbrev pub invariant-loop-thread : goal.invariant-loop-thread
invariant-loop-thread l =
    l.wires ++ map (λ thread. finished l.net.0 thread l.splice) (newest_first l.threads.items)
    ≡ l.initial.wires ++ map (λ thread. finished l.net.0 thread l.splice) (newest_first l.initial.threads.items)

abbrev pub decreases-loop-thread : goal.decreases-loop-thread
decreases-loop-thread l = vec_len l.threads
