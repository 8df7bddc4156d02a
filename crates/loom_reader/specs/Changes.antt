-- Edits as they are written down in the versions of the document.
use Rattle.std.specs.Prelude.{ℕ, List, [], ◌∷◌, Result, Ok, codes}
use Rattle.serde_json.specs.Data.{Data}
use Rattle.loom_base.specs.First.{◌>>=◌}
use Rattle.loom_json.specs.Forms.{keyed, at_key, list, name_form}
use Rattle.loom_edits.specs.declared.edit.Edit.{Edit}
use Rattle.loom_edits.specs.declared.edit.Edit.TheVariants as edits
use Rattle.loom_reader.specs.declared.op.NamedOp.{NamedOp}
use Rattle.loom_reader.specs.declared.op.NamedOp.TheVariants as named
use Rattle.loom_reader.specs.declared.op.RuleOp.{RuleOp}
use Rattle.loom_reader.specs.declared.op.RuleOp.TheVariants as rule
use Rattle.loom_reader.specs.declared.op.Addition.{Addition}
use Rattle.loom_reader.specs.declared.op.Addition.TheVariants as addition
use Rattle.loom_reader.specs.declared.op.TerminalOp.{TerminalOp}
use Rattle.loom_reader.specs.declared.op.TerminalOp.TheVariants as terminal
use Rattle.loom_reader.specs.declared.op.Setting.{Setting}
use Rattle.loom_reader.specs.declared.op.Setting.TheVariants as setting
use Rattle.loom_reader.specs.Formula.{formula_form}
use Rattle.loom_reader.specs.Parts.{keys_of, whole_form, price_form, branch_form, pins_form, pin_form, bars_form, reserved_form, class_form, terminal_form}

-- the edit of a thing that is told by its name alone
abbrev pub edit_of : NamedOp → List ℕ → Edit
edit_of named.AddOption name = edits.AddOption name
edit_of named.RemoveOption name = edits.RemoveOption name
edit_of named.RemoveNode name = edits.RemoveNode name
edit_of named.RemoveSegment name = edits.RemoveSegment name
edit_of named.RemoveCavity name = edits.RemoveCavity name
edit_of named.RemoveNet name = edits.RemoveNet name

-- an edit with a name alone
unfoldable pub named_form : NamedOp → Data → Result Edit (List ℕ)
named_form op d = do
  checked ← keyed (codes "op" ∷ codes "name" ∷ []) d
  name ← at_key name_form (codes "name") d
  Ok (edit_of op name)

-- a rule that is added
unfoldable pub add_rule_form : Data → Result Edit (List ℕ)
add_rule_form d = do
  checked ← keyed (codes "op" ∷ codes "when" ∷ []) d
  when ← at_key formula_form (codes "when") d
  Ok (edits.AddRule when)

-- a rule that is removed, by its position
unfoldable pub remove_rule_form : Data → Result Edit (List ℕ)
remove_rule_form d = do
  checked ← keyed (codes "op" ∷ codes "number" ∷ []) d
  number ← at_key whole_form (codes "number") d
  Ok (edits.RemoveRule number)

-- an edit of the rules
abbrev pub rule_form : RuleOp → Data → Result Edit (List ℕ)
rule_form rule.Add d = add_rule_form d
rule_form rule.Remove d = remove_rule_form d

-- a node that is added
unfoldable pub add_node_form : Data → Result Edit (List ℕ)
add_node_form d = do
  checked ← keyed (codes "op" ∷ codes "name" ∷ codes "harness" ∷ codes "branch" ∷ []) d
  name ← at_key name_form (codes "name") d
  harness ← at_key name_form (codes "harness") d
  branch ← at_key branch_form (codes "branch") d
  Ok (edits.AddNode name harness branch)

-- the keys of a run that is added
abbrev pub add_run_keys : ℕ → List (List ℕ)
add_run_keys version = keys_of version
    (codes "op" ∷ codes "name" ∷ codes "from" ∷ codes "to" ∷ codes "length" ∷ [])
    (codes "bars" ∷ [])

-- a run that is added
unfoldable pub add_run_form : ℕ → Data → Result Edit (List ℕ)
add_run_form version d = do
  checked ← keyed (add_run_keys version) d
  name ← at_key name_form (codes "name") d
  from ← at_key name_form (codes "from") d
  to ← at_key name_form (codes "to") d
  length ← at_key price_form (codes "length") d
  bars ← bars_form version d
  Ok (edits.AddRun name from to length bars)

-- the keys of a coupler that is added
abbrev pub add_coupler_keys : ℕ → List (List ℕ)
add_coupler_keys version = keys_of version
    (codes "op" ∷ codes "name" ∷ codes "from" ∷ codes "to" ∷ codes "price" ∷ codes "pins" ∷ [])
    (codes "bars" ∷ codes "reserved" ∷ [])

-- a coupler that is added
unfoldable pub add_coupler_form : ℕ → Data → Result Edit (List ℕ)
add_coupler_form version d = do
  checked ← keyed (add_coupler_keys version) d
  name ← at_key name_form (codes "name") d
  from ← at_key name_form (codes "from") d
  to ← at_key name_form (codes "to") d
  price ← at_key price_form (codes "price") d
  pins ← at_key pins_form (codes "pins") d
  bars ← bars_form version d
  reserved ← reserved_form version d
  Ok (edits.AddCoupler name from to price pins bars reserved)

-- a cavity that is added
unfoldable pub add_cavity_form : Data → Result Edit (List ℕ)
add_cavity_form d = do
  checked ← keyed (codes "op" ∷ codes "name" ∷ codes "device" ∷ codes "node" ∷ []) d
  name ← at_key name_form (codes "name") d
  device ← at_key name_form (codes "device") d
  node ← at_key name_form (codes "node") d
  Ok (edits.AddCavity name device node)

-- the keys of a net that is added
abbrev pub add_net_keys : ℕ → List (List ℕ)
add_net_keys version = keys_of version
    (codes "op" ∷ codes "name" ∷ codes "terminals" ∷ [])
    (codes "class" ∷ [])

-- a net that is added
unfoldable pub add_net_form : ℕ → Data → Result Edit (List ℕ)
add_net_form version d = do
  checked ← keyed (add_net_keys version) d
  name ← at_key name_form (codes "name") d
  class ← class_form version d
  terminals ← at_key (list terminal_form) (codes "terminals") d
  Ok (edits.AddNet name class terminals)

-- a thing that is added and has more than a name
abbrev pub addition_form : ℕ → Addition → Data → Result Edit (List ℕ)
addition_form version addition.Node d = add_node_form d
addition_form version addition.Run d = add_run_form version d
addition_form version addition.Coupler d = add_coupler_form version d
addition_form version addition.Cavity d = add_cavity_form d
addition_form version addition.Net d = add_net_form version d

-- a terminal that is added to a net
unfoldable pub add_terminal_form : Data → Result Edit (List ℕ)
add_terminal_form d = do
  checked ← keyed (codes "op" ∷ codes "net" ∷ codes "cavity" ∷ codes "when" ∷ []) d
  net ← at_key name_form (codes "net") d
  cavity ← at_key name_form (codes "cavity") d
  when ← at_key formula_form (codes "when") d
  Ok (edits.AddTerminal net cavity when)

-- a terminal that is removed from a net
unfoldable pub remove_terminal_form : Data → Result Edit (List ℕ)
remove_terminal_form d = do
  checked ← keyed (codes "op" ∷ codes "net" ∷ codes "cavity" ∷ []) d
  net ← at_key name_form (codes "net") d
  cavity ← at_key name_form (codes "cavity") d
  Ok (edits.RemoveTerminal net cavity)

-- a terminal of a net that gets another formula
unfoldable pub set_when_form : Data → Result Edit (List ℕ)
set_when_form d = do
  checked ← keyed (codes "op" ∷ codes "net" ∷ codes "cavity" ∷ codes "when" ∷ []) d
  net ← at_key name_form (codes "net") d
  cavity ← at_key name_form (codes "cavity") d
  when ← at_key formula_form (codes "when") d
  Ok (edits.SetWhen net cavity when)

-- an edit of a net's terminals
abbrev pub terminal_op_form : TerminalOp → Data → Result Edit (List ℕ)
terminal_op_form terminal.Add d = add_terminal_form d
terminal_op_form terminal.Remove d = remove_terminal_form d
terminal_op_form terminal.SetWhen d = set_when_form d

-- the key of what a thing gets
abbrev pub setting_key : Setting → List ℕ
setting_key setting.Length = codes "length"
setting_key setting.Price = codes "price"
setting_key setting.Pins = codes "pins"
setting_key setting.Branch = codes "branch"
setting_key setting.Class = codes "class"
setting_key setting.Bars = codes "bars"
setting_key setting.Reserved = codes "reserved"

-- what the thing of a name gets
abbrev pub set_form : Setting → List ℕ → Data → Result Edit (List ℕ)
set_form setting.Length name d = at_key price_form (codes "length") d >>= λ length. Ok (edits.SetLength name length)
set_form setting.Price name d = at_key price_form (codes "price") d >>= λ price. Ok (edits.SetPrice name price)
set_form setting.Pins name d = at_key pins_form (codes "pins") d >>= λ pins. Ok (edits.SetPins name pins)
set_form setting.Branch name d = at_key branch_form (codes "branch") d >>= λ branch. Ok (edits.SetBranch name branch)
set_form setting.Class name d = at_key name_form (codes "class") d >>= λ class. Ok (edits.SetClass name class)
set_form setting.Bars name d = at_key (list name_form) (codes "bars") d >>= λ bars. Ok (edits.SetBars name bars)
set_form setting.Reserved name d = at_key (list pin_form) (codes "reserved") d >>= λ reserved. Ok (edits.SetReserved name reserved)

-- an edit that gives the thing of a name something else
unfoldable pub setting_form : Setting → Data → Result Edit (List ℕ)
setting_form op d = do
  checked ← keyed (codes "op" ∷ codes "name" ∷ setting_key op ∷ []) d
  name ← at_key name_form (codes "name") d
  set_form op name d
