use Rattle.std.proofs.Common.{◌≡◌, map, take}
use Rattle.loom_types.specs.declared.plan.TableLine.{TableLine}
use Rattle.loom_plan.proofs.planning.nets_of.Given as goal

abbrev pub invariant-loop-line : goal.invariant-loop-line
invariant-loop-line l = l.nets ≡ map (λ (line : TableLine). line.net) (take l.line-index l.tables)
