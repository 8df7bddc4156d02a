-- What is printed of an outcome with names and numbers is plain.
use Rattle.std.proofs.Common.{◌≡◌, ℕ, suc, List, [], ◌∷◌, true, map, codes, refl, arith}
use Rattle.std.specs.List.{All}
use Rattle.std.proofs.lemmas.List.Elements.{All-head, All-tail}
use Rattle.json.proofs.Printed.Utf8.{are_ascii}
use Rattle.serde_json.specs.Data.{string}
use Rattle.serde_json.specs.View.{items_of}
use Rattle.loom_base.specs.declared.limits.Which.{Which}
use Rattle.loom_base.specs.declared.limits.Which.TheVariants as limits
use Rattle.loom_project.specs.declared.fault.Of.{Of}
use Rattle.loom_project.specs.declared.fault.Of.TheVariants as things
use Rattle.loom_project.specs.declared.fault.ProjectFault.{ProjectFault}
use Rattle.loom_project.specs.declared.fault.ProjectFault.TheVariants as project_faults
use Rattle.loom_edits.specs.declared.fault.EditFault.{EditFault}
use Rattle.loom_edits.specs.declared.fault.EditFault.TheVariants as edit_faults
use Rattle.loom_answer.specs.declared.named_stop.NamedStop.{NamedStop}
use Rattle.loom_answer.specs.declared.named_stop.NamedStop.TheVariants as stops
use Rattle.loom_answer.specs.declared.outcome.Outcome.{Outcome}
use Rattle.loom_answer.specs.declared.outcome.Outcome.TheVariants as outcomes
use Rattle.loom_answer.specs.Faults.{of_name, limit_name, name_fault_shown, segment_fault_shown, limit_shown, fault_shown}
use Rattle.loom_answer.specs.Outcomes.{edit_fault_shown, outcome_shown}
use Rattle.loom_answer.specs.Readable.{IsWide}
use Rattle.loom_answer.specs.Stops.{stop_shown}
use Rattle.loom_reader.specs.Written.{IsName}
use Rattle.loom_reader.specs.WrittenOutcomes.{IsWrittenFault, IsWrittenEditFault, IsWrittenStop, IsWrittenOutcome}
use Rattle.loom_reader.proofs.Plain.{IsPlain, ItemsArePlain}
use Rattle.loom_reader.proofs.Told.{name_ascii}

thing_ascii : (of : Of) → are_ascii (of_name of) ≡ true
thing_ascii things.OptionName = refl
thing_ascii things.Node = refl
thing_ascii things.Segment = refl
thing_ascii things.Cavity = refl
thing_ascii things.Net = refl
thing_ascii things.Terminal = refl

limit_ascii : (which : Which) → are_ascii (limit_name which) ≡ true
limit_ascii limits.Options = refl
limit_ascii limits.Rules = refl
limit_ascii limits.FormulaNodes = refl
limit_ascii limits.FormulaDepth = refl
limit_ascii limits.Nodes = refl
limit_ascii limits.Segments = refl
limit_ascii limits.Bars = refl
limit_ascii limits.Cavities = refl
limit_ascii limits.Nets = refl
limit_ascii limits.Terminals = refl
limit_ascii limits.Edits = refl
limit_ascii limits.Sets = refl
limit_ascii limits.Cells = refl
limit_ascii limits.Steps = refl
limit_ascii limits.Wires = refl
limit_ascii limits.Rows = refl

names_plain : (n : ℕ) (names : List (List ℕ)) → All IsName names → ItemsArePlain (items_of (map string names)) n
names_plain n [] all = tt
names_plain n (name ∷ names) all = (name_ascii name (All-head IsName name names all), names_plain n names (All-tail IsName name names all))

name_fault_plain : (n : ℕ) (kind : List ℕ) (of : Of) (name : List ℕ) → are_ascii kind ≡ true → IsName name → IsPlain (name_fault_shown kind of name) (suc n)
name_fault_plain n kind of name word is = (refl, (word, (name_ascii name is, (thing_ascii of, tt))))

segment_fault_plain : (n : ℕ) (kind segment : List ℕ) → are_ascii kind ≡ true → IsName segment → IsPlain (segment_fault_shown kind segment) (suc n)
segment_fault_plain n kind segment word is = (refl, (word, (name_ascii segment is, tt)))

limit_plain : (n : ℕ) (which : Which) (count : ℕ) → IsWide count → IsPlain (limit_shown which count) (suc n)
limit_plain n which count is = (refl, (omega (arith, is), (refl, (limit_ascii which, tt))))

fault_plain : (n : ℕ) (fault : ProjectFault) → IsWrittenFault fault → IsPlain (fault_shown fault) (suc n)
fault_plain n (project_faults.UnknownName of name) is = name_fault_plain n (codes "UnknownName") of name refl is
fault_plain n (project_faults.RepeatedName of name) is = name_fault_plain n (codes "RepeatedName") of name refl is
fault_plain n (project_faults.TerminalRepeated net cavity) is = (refl, (name_ascii cavity is.1, (refl, (name_ascii net is.0, tt))))
fault_plain n (project_faults.TooFewTerminals net count) is = (refl, (omega (arith, is.1), (refl, (name_ascii net is.0, tt))))
fault_plain n (project_faults.EndsEqual segment) is = segment_fault_plain n (codes "EndsEqual") segment refl is
fault_plain n (project_faults.BorderCrossed segment) is = segment_fault_plain n (codes "BorderCrossed") segment refl is
fault_plain n (project_faults.NoBorder segment) is = segment_fault_plain n (codes "NoBorder") segment refl is
fault_plain n (project_faults.ReservedPin segment pin) is = (refl, (refl, (omega (arith, is.1), (name_ascii segment is.0, tt))))
fault_plain n (project_faults.Limit which count) is = limit_plain n which count is
fault_plain n project_faults.NoMemory is = tt

edit_fault_plain : (n : ℕ) (fault : EditFault) → IsWrittenEditFault fault → IsPlain (edit_fault_shown fault) (suc n)
edit_fault_plain n (edit_faults.UnknownName of name) is = name_fault_plain n (codes "UnknownName") of name refl is
edit_fault_plain n (edit_faults.UnknownRule number) is = (refl, (refl, (omega (arith, is), tt)))
edit_fault_plain n (edit_faults.WrongKind segment) is = segment_fault_plain n (codes "WrongKind") segment refl is
edit_fault_plain n (edit_faults.InUse of name) is = name_fault_plain n (codes "InUse") of name refl is
edit_fault_plain n (edit_faults.Project fault) is = fault_plain n fault is
edit_fault_plain n edit_faults.NoMemory is = tt

stop_plain : (n : ℕ) (stop : NamedStop) → IsWrittenStop stop → IsPlain (stop_shown stop) (suc (suc n))
stop_plain n stops.NoChoice is = (refl, (refl, tt))
stop_plain n (stops.Clash cavity first second choice) is =
    (refl, (name_ascii cavity is.0, (names_plain n choice is.3, (name_ascii first is.1, (refl, (name_ascii second is.2, tt))))))
stop_plain n (stops.Unreachable net cavity reached) is =
    (refl, (name_ascii cavity is.1, (refl, (name_ascii net is.0, (names_plain n reached is.2, tt)))))
stop_plain n (stops.NoPin net coupler ordinal) is =
    (refl, (name_ascii coupler is.1, (refl, (name_ascii net is.0, (omega (arith, is.2), tt)))))
stop_plain n (stops.Limit which count) is = limit_plain (suc n) which count is

outcome_plain : (n : ℕ) (outcome : Outcome) → IsWrittenOutcome outcome → IsPlain (outcome_shown outcome) (suc (suc n))
outcome_plain n outcomes.Applied is = tt
outcome_plain n (outcomes.Priced cost wires) is = (refl, (omega (arith, is.0), (omega (arith, is.1), tt)))
outcome_plain n (outcomes.Fault fault) is = edit_fault_plain (suc n) fault is
outcome_plain n (outcomes.Stop stop) is = stop_plain n stop is
outcome_plain n outcomes.NothingToUndo is = (refl, (refl, tt))
outcome_plain n outcomes.NothingToRedo is = (refl, (refl, tt))

pub outcomes_plain : (n : ℕ) (xs : List Outcome) → All IsWrittenOutcome xs → ItemsArePlain (items_of (map outcome_shown xs)) (suc (suc n))
outcomes_plain n [] all = tt
outcomes_plain n (x ∷ xs) all = (outcome_plain n x (All-head IsWrittenOutcome x xs all), outcomes_plain n xs (All-tail IsWrittenOutcome x xs all))
