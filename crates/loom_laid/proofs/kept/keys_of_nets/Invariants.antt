use Rattle.std.proofs.Common.{take}
use Rattle.loom_laid.specs.Keys.{AreKeysOf}
use Rattle.loom_laid.proofs.kept.keys_of_nets.Given as goal

abbrev pub invariant-loop-net : goal.invariant-loop-net
invariant-loop-net l = AreKeysOf l.project (take l.net-index l.nets) l.keys.keys
