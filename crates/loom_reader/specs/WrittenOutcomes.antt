-- Outcomes with names that are names and numbers that fit their types.
use Rattle.std.specs.Prelude.{⊤}
use Rattle.std.specs.List.{All}
use Rattle.loom_project.specs.declared.fault.ProjectFault.{ProjectFault}
use Rattle.loom_project.specs.declared.fault.ProjectFault.TheVariants as project_faults
use Rattle.loom_edits.specs.declared.fault.EditFault.{EditFault}
use Rattle.loom_edits.specs.declared.fault.EditFault.TheVariants as edit_faults
use Rattle.loom_answer.specs.declared.named_stop.NamedStop.{NamedStop}
use Rattle.loom_answer.specs.declared.named_stop.NamedStop.TheVariants as stops
use Rattle.loom_answer.specs.declared.outcome.Outcome.{Outcome}
use Rattle.loom_answer.specs.declared.outcome.Outcome.TheVariants as outcomes
use Rattle.loom_answer.specs.Readable.{IsSmall, IsWide, IsPinNumber}
use Rattle.loom_reader.specs.Written.{IsName}

-- a project's fault with names and numbers
abbrev pub IsWrittenFault : ProjectFault → Type 0
IsWrittenFault (project_faults.UnknownName of name) = IsName name
IsWrittenFault (project_faults.RepeatedName of name) = IsName name
IsWrittenFault (project_faults.TerminalRepeated net cavity) = IsName net × IsName cavity
IsWrittenFault (project_faults.TooFewTerminals net count) = IsName net × IsWide count
IsWrittenFault (project_faults.EndsEqual segment) = IsName segment
IsWrittenFault (project_faults.BorderCrossed segment) = IsName segment
IsWrittenFault (project_faults.NoBorder segment) = IsName segment
IsWrittenFault (project_faults.ReservedPin segment pin) = IsName segment × IsPinNumber pin
IsWrittenFault (project_faults.Limit which count) = IsWide count
IsWrittenFault project_faults.NoMemory = ⊤

-- an edit's fault with names and numbers
abbrev pub IsWrittenEditFault : EditFault → Type 0
IsWrittenEditFault (edit_faults.UnknownName of name) = IsName name
IsWrittenEditFault (edit_faults.UnknownRule number) = IsWide number
IsWrittenEditFault (edit_faults.WrongKind segment) = IsName segment
IsWrittenEditFault (edit_faults.InUse of name) = IsName name
IsWrittenEditFault (edit_faults.Project fault) = IsWrittenFault fault
IsWrittenEditFault edit_faults.NoMemory = ⊤

-- a stop of planning with names and numbers
abbrev pub IsWrittenStop : NamedStop → Type 0
IsWrittenStop stops.NoChoice = ⊤
IsWrittenStop (stops.Clash cavity first second choice) = IsName cavity × IsName first × IsName second × All IsName choice
IsWrittenStop (stops.Unreachable net cavity reached) = IsName net × IsName cavity × All IsName reached
IsWrittenStop (stops.NoPin net coupler ordinal) = IsName net × IsName coupler × IsSmall ordinal
IsWrittenStop (stops.Limit which count) = IsWide count

-- an outcome of an edit with names and numbers
abbrev pub IsWrittenOutcome : Outcome → Type 0
IsWrittenOutcome outcomes.Applied = ⊤
IsWrittenOutcome (outcomes.Priced cost wires) = IsWide cost × IsSmall wires
IsWrittenOutcome (outcomes.Fault fault) = IsWrittenEditFault fault
IsWrittenOutcome (outcomes.Stop stop) = IsWrittenStop stop
IsWrittenOutcome outcomes.NothingToUndo = ⊤
IsWrittenOutcome outcomes.NothingToRedo = ⊤
