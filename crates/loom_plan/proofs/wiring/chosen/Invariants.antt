use Rattle.std.proofs.Common.{◌≡◌, ◌++◌, map, drop}
use Rattle.loom_base.specs.declared.positions.CavityNo.{CavityNo}
use Rattle.loom_topology.specs.Legal.{chosen}
use Rattle.loom_plan.specs.Stages.{cavity_no}
use Rattle.loom_plan.proofs.wiring.chosen.Given as goal

abbrev pub invariant-loop-cavity : goal.invariant-loop-cavity
invariant-loop-cavity l =
    map cavity_no (chosen (map (λ (c : CavityNo). c.0) l.cavities) l.mask)
    ≡ l.some ++ map cavity_no (chosen (map (λ (c : CavityNo). c.0) (drop l.cavity-index l.cavities)) l.rest)
