use Rattle.std.proofs.Common.{◌≡◌, take}
use Rattle.loom_project.proofs.copy.copied_nets.Given as goal

abbrev pub invariant-loop-net : goal.invariant-loop-net
invariant-loop-net l = l.copies ≡ take l.net-index l.nets
