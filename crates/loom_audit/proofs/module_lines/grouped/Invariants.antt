use Rattle.std.proofs.Common.{take}
use Rattle.loom_audit.specs.Grouping.{AreGrouped, FindsModules}
use Rattle.loom_audit.proofs.module_lines.grouped.Given as goal

abbrev pub invariant-loop-at : goal.invariant-loop-at
invariant-loop-at l = AreGrouped l.topology (take l.at l.wires) l.modules.items × FindsModules l.modules.items l.places
