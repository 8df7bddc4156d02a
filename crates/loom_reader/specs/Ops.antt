-- What entries of a document's edits do, by the words that they are told in.
use Rattle.std.specs.Prelude.{ℕ, List, [], ◌∷◌, Bool, true, false, not, ◌||◌, if◌then◌else◌, Option, Some, None, option_and_then, Result, codes}
use Rattle.std.specs.Str.{bytes_eq}
use Rattle.serde_json.specs.Data.{Data}
use Rattle.serde_json.specs.Find.{as_str}
use Rattle.loom_json.specs.Forms.{required}
use Rattle.loom_reader.specs.declared.op.Op.{Op}
use Rattle.loom_reader.specs.declared.op.Op.TheVariants.{Price, Undo, Redo, Named, OfRule, Add, OfTerminal, Set}
use Rattle.loom_reader.specs.declared.op.NamedOp.TheVariants as named
use Rattle.loom_reader.specs.declared.op.RuleOp.TheVariants as rule
use Rattle.loom_reader.specs.declared.op.Addition.TheVariants as addition
use Rattle.loom_reader.specs.declared.op.TerminalOp.TheVariants as terminal
use Rattle.loom_reader.specs.declared.op.Setting.{Setting}
use Rattle.loom_reader.specs.declared.op.Setting.TheVariants as setting
use Rattle.loom_reader.specs.Parts.{has_classes}

-- the words and what each of them does
abbrev pub words : List (List ℕ × Op)
words =
    (codes "add_option", Named named.AddOption)
    ∷ (codes "remove_option", Named named.RemoveOption)
    ∷ (codes "add_rule", OfRule rule.Add)
    ∷ (codes "remove_rule", OfRule rule.Remove)
    ∷ (codes "add_node", Add addition.Node)
    ∷ (codes "remove_node", Named named.RemoveNode)
    ∷ (codes "add_run", Add addition.Run)
    ∷ (codes "add_coupler", Add addition.Coupler)
    ∷ (codes "remove_segment", Named named.RemoveSegment)
    ∷ (codes "add_cavity", Add addition.Cavity)
    ∷ (codes "remove_cavity", Named named.RemoveCavity)
    ∷ (codes "add_net", Add addition.Net)
    ∷ (codes "remove_net", Named named.RemoveNet)
    ∷ (codes "add_terminal", OfTerminal terminal.Add)
    ∷ (codes "remove_terminal", OfTerminal terminal.Remove)
    ∷ (codes "set_length", Set setting.Length)
    ∷ (codes "set_price", Set setting.Price)
    ∷ (codes "set_pins", Set setting.Pins)
    ∷ (codes "set_branch", Set setting.Branch)
    ∷ (codes "set_when", OfTerminal terminal.SetWhen)
    ∷ (codes "set_class", Set setting.Class)
    ∷ (codes "set_bars", Set setting.Bars)
    ∷ (codes "set_reserved", Set setting.Reserved)
    ∷ (codes "price", Price)
    ∷ (codes "undo", Undo)
    ∷ (codes "redo", Redo)
    ∷ []

-- what stands beside a word in a list
abbrev pub beside : List ℕ → List (List ℕ × Op) → Option Op
beside word [] = None
beside word (entry ∷ more) = if bytes_eq word entry.0 then Some entry.1 else beside word more

-- what a word does, in whatever version
abbrev pub op_of : List ℕ → Option Op
op_of word = beside word words

-- settings of what the first version doesn't write down
abbrev pub sets_classes : Setting → Bool
sets_classes setting.Length = false
sets_classes setting.Price = false
sets_classes setting.Pins = false
sets_classes setting.Branch = false
sets_classes setting.Class = true
sets_classes setting.Bars = true
sets_classes setting.Reserved = true

-- whether an op has a meaning only where classes, bars and reserved pins are written down
abbrev pub needs_classes : Op → Bool
needs_classes Price = false
needs_classes Undo = false
needs_classes Redo = false
needs_classes (Named op) = false
needs_classes (OfRule op) = false
needs_classes (Add op) = false
needs_classes (OfTerminal op) = false
needs_classes (Set op) = sets_classes op

-- an op that a version has
abbrev pub known_in : ℕ → Op → Option Op
known_in version op = if has_classes version || not (needs_classes op) then Some op else None

-- a word for an op of the version
abbrev pub op_form : ℕ → Data → Result Op (List ℕ)
op_form version d = required (option_and_then (known_in version) (option_and_then op_of (as_str d)))
