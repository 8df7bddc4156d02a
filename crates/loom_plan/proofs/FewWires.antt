-- A plan prints no more wires than are cut.
use Rattle.std.proofs.Common.{ℕ, ◌≤◌, List, [], ◌∷◌, length, drop, ap, arith}
use Rattle.std.proofs.lemmas.List.{length-map}
use Rattle.loom_project.specs.declared.draft.Draft.{Draft}
use Rattle.loom_rows.specs.Table.{Table}
use Rattle.loom_types.specs.declared.plan.PinLine.{PinLine}
use Rattle.loom_types.specs.declared.plan.Plan.{Plan}
use Rattle.loom_laid.specs.declared.laid_set.Laid.{Laid}
use Rattle.loom_wires.specs.declared.cut_wire.CutWire.{CutWire}
use Rattle.loom_wires.specs.Wires.{bare_of}
use Rattle.loom_plan.specs.Stages.{HasCut, Prints, numbered, wire_line}

numbered-few : {A B : Type 0} (line : A → ℕ → B) (xs : List A) (numbers : List ℕ) → length (numbered line xs numbers) ≤ length xs
numbered-few line [] numbers = omega arith
numbered-few line (x ∷ xs) [] = omega arith
numbered-few line (x ∷ xs) (number ∷ numbers) = omega (arith, numbered-few line xs numbers)

pub few_wires : (draft : Draft) (t : Table) (options : ℕ) (laid : Laid) (lines : List PinLine) (wires : List CutWire) (plan : Plan)
    → HasCut draft t laid.sets lines wires → Prints draft options laid lines wires plan → length plan.wires ≤ 65536
few_wires draft t options laid lines wires plan cut prints =
    omega (arith, ap length prints.wires_are, numbered-few wire_line wires (drop (length laid.sets) prints.numbers), length-map wires bare_of, cut.cuts.few_wires)
