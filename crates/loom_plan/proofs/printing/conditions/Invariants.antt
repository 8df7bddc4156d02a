use Rattle.std.proofs.Common.{◌≡◌, ◌++◌, map, take}
use Rattle.loom_laid.specs.declared.laid_set.LaidSet.{LaidSet}
use Rattle.loom_wires.specs.declared.cut_wire.CutWire.{CutWire}
use Rattle.loom_plan.proofs.printing.conditions.Given as goal

abbrev pub invariant-loop-wire : goal.invariant-loop-wire
invariant-loop-wire l =
    l.conds ≡ map (λ (set : LaidSet). set.cond) l.sets ++ map (λ (w : CutWire). w.cond) (take l.wire-index l.wires)
