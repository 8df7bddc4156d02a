use Rattle.std.proofs.Common.{◌≡◌, ◌++◌, map, drop}
use Rattle.loom_base.specs.declared.positions.CavityNo.{CavityNo}
use Rattle.loom_topology.specs.Legal.{chosen}
use Rattle.loom_audit.proofs.trees.cavities_in.Given as goal

abbrev pub invariant-loop-cavity : goal.invariant-loop-cavity
invariant-loop-cavity l =
    chosen (map (λ (c : CavityNo). c.0) l.cavities) l.mask
    ≡ l.some.items ++ chosen (map (λ (c : CavityNo). c.0) (drop l.cavity-index l.cavities)) l.rest
