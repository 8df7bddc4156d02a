use Rattle.std.proofs.Common.{◌≡◌, take}
use Rattle.std.specs.List.{All}
use Rattle.loom_types.specs.declared.wire.End.TheVariants.{Cavity}
use Rattle.loom_audit.specs.EndKeys.{count_in}
use Rattle.loom_audit.proofs.trees.have_one_wire.Given as goal

abbrev pub invariant-loop-cavity : goal.invariant-loop-cavity
invariant-loop-cavity l = All (λ c. count_in l.counts (Cavity (record { 0 = c })) ≡ 1) (take l.cavity-index l.cavities)
