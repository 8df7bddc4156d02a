use Rattle.std.proofs.Common.{◌≡◌, take}
use Rattle.loom_project.specs.Classes.{net_classes}
use Rattle.loom_project.proofs.classes.class_index.Given as goal

abbrev pub invariant-loop-net : goal.invariant-loop-net
invariant-loop-net l = l.classes ≡ net_classes (take l.net-index l.nets)
