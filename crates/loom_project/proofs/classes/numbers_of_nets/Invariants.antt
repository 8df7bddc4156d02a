use Rattle.std.proofs.Common.{◌≡◌, map, take}
use Rattle.loom_project.specs.Draft.{index_of}
use Rattle.loom_project.specs.Classes.{net_classes}
use Rattle.loom_project.proofs.classes.numbers_of_nets.Given as goal

abbrev pub invariant-loop-net : goal.invariant-loop-net
invariant-loop-net l = l.numbers ≡ map (λ net. index_of (net_classes l.nets) net.class) (take l.net-index l.nets)
