use Rattle.std.proofs.Common.{map}
use Rattle.loom_laid.proofs.LiveNets.{NetsSoFar}
use Rattle.loom_laid.proofs.laying.live_nets.Given as goal

abbrev pub invariant-loop-set : goal.invariant-loop-set
invariant-loop-set l = NetsSoFar l.project l.sets l.set-index l.past (map (λ net. net.0) l.nets)
