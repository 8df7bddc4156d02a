-- The parts of a project as they are written down in the versions of the document.
use Rattle.std.specs.Prelude.{ℕ, List, [], ◌∷◌, ◌++◌, Bool, ◌==◌, ◌||◌, if◌then◌else◌, Result, Ok, codes, is_some}
use Rattle.serde_json.specs.Data.{Data}
use Rattle.serde_json.specs.Find.{get}
use Rattle.loom_base.specs.First.{◌>>=◌}
use Rattle.loom_json.specs.Forms.{keyed, at_key, list, name_form, number_form}
use Rattle.loom_topology.specs.declared.kind.Kind.TheVariants.{Run, Coupler}
use Rattle.loom_project.specs.declared.draft.NodeDraft.{NodeDraft}
use Rattle.loom_project.specs.declared.draft.SegmentDraft.{SegmentDraft}
use Rattle.loom_project.specs.declared.draft.CavityDraft.{CavityDraft}
use Rattle.loom_project.specs.declared.draft.TerminalDraft.{TerminalDraft}
use Rattle.loom_project.specs.declared.draft.NetDraft.{NetDraft}
use Rattle.loom_reader.specs.Formula.{formula_form}

-- a reading that takes place under a condition; where it doesn't, nothing is looked at
abbrev pub read_where : {X : Type 0} → Bool → Result X (List ℕ) → X → Result X (List ℕ)
read_where condition reading unread = if condition then reading else Ok unread

-- whether documents of a version write down the classes of nets, and what segments bar and reserve
abbrev pub has_classes : ℕ → Bool
has_classes version = version == 2

-- the keys of an object that has some in each version, and the others where classes are written down
abbrev pub keys_of : ℕ → List (List ℕ) → List (List ℕ) → List (List ℕ)
keys_of version always others = always ++ (if has_classes version then others else [])

-- any whole number of 64 bits
abbrev pub whole_form : Data → Result ℕ (List ℕ)
whole_form = number_form 0 18446744073709551615

-- a run's length or a coupler's price
abbrev pub price_form : Data → Result ℕ (List ℕ)
price_form = number_form 1 1000000

-- a node's branch cost
abbrev pub branch_form : Data → Result ℕ (List ℕ)
branch_form = number_form 0 1000000

-- how many pins a coupler has
abbrev pub pins_form : Data → Result ℕ (List ℕ)
pins_form = number_form 1 512

-- a node with its harness
unfoldable pub node_form : Data → Result NodeDraft (List ℕ)
node_form d = do
  checked ← keyed (codes "name" ∷ codes "harness" ∷ codes "branch" ∷ []) d
  name ← at_key name_form (codes "name") d
  harness ← at_key name_form (codes "harness") d
  branch ← at_key branch_form (codes "branch") d
  Ok (record { name = name; harness = harness; branch = branch })

-- a pin of a coupler
abbrev pub pin_form : Data → Result ℕ (List ℕ)
pin_form = number_form 1 512

-- the classes that a segment bars; none is barred where they aren't written down
abbrev pub bars_form : ℕ → Data → Result (List (List ℕ)) (List ℕ)
bars_form version d = read_where (has_classes version) (at_key (list name_form) (codes "bars") d) []

-- the pins that a coupler reserves; none is reserved where they aren't written down
abbrev pub reserved_form : ℕ → Data → Result (List ℕ) (List ℕ)
reserved_form version d = read_where (has_classes version) (at_key (list pin_form) (codes "reserved") d) []

-- the class of a net; it is the standard class where it isn't written down
abbrev pub class_form : ℕ → Data → Result (List ℕ) (List ℕ)
class_form version d = read_where (has_classes version) (at_key name_form (codes "class") d) (codes "std")

-- the keys of a run
abbrev pub run_keys : ℕ → List (List ℕ)
run_keys version = keys_of version
    (codes "name" ∷ codes "from" ∷ codes "to" ∷ codes "length" ∷ [])
    (codes "bars" ∷ [])

-- a run from a node to another
unfoldable pub run_form : ℕ → Data → Result SegmentDraft (List ℕ)
run_form version d = do
  checked ← keyed (run_keys version) d
  name ← at_key name_form (codes "name") d
  from ← at_key name_form (codes "from") d
  to ← at_key name_form (codes "to") d
  length ← at_key price_form (codes "length") d
  bars ← bars_form version d
  Ok (record { name = name; from = from; to = to; kind = Run length; bars = bars; reserved = [] })

-- the keys of a coupler
abbrev pub coupler_keys : ℕ → List (List ℕ)
coupler_keys version = keys_of version
    (codes "name" ∷ codes "from" ∷ codes "to" ∷ codes "price" ∷ codes "pins" ∷ [])
    (codes "bars" ∷ codes "reserved" ∷ [])

-- a coupler from a node to another
unfoldable pub coupler_form : ℕ → Data → Result SegmentDraft (List ℕ)
coupler_form version d = do
  checked ← keyed (coupler_keys version) d
  name ← at_key name_form (codes "name") d
  from ← at_key name_form (codes "from") d
  to ← at_key name_form (codes "to") d
  price ← at_key price_form (codes "price") d
  pins ← at_key pins_form (codes "pins") d
  bars ← bars_form version d
  reserved ← reserved_form version d
  Ok (record { name = name; from = from; to = to; kind = Coupler price pins; bars = bars; reserved = reserved })

-- a value that has a price or pins is read as a coupler
abbrev pub has_coupler_keys : Data → Bool
has_coupler_keys d = is_some (get (codes "price") d) || is_some (get (codes "pins") d)

-- a segment
unfoldable pub segment_form : ℕ → Data → Result SegmentDraft (List ℕ)
segment_form version d = if has_coupler_keys d then coupler_form version d else run_form version d

-- a cavity of a device, at a node
unfoldable pub cavity_form : Data → Result CavityDraft (List ℕ)
cavity_form d = do
  checked ← keyed (codes "name" ∷ codes "device" ∷ codes "node" ∷ []) d
  name ← at_key name_form (codes "name") d
  device ← at_key name_form (codes "device") d
  node ← at_key name_form (codes "node") d
  Ok (record { name = name; device = device; node = node })

-- a cavity that a net needs where a formula holds
unfoldable pub terminal_form : Data → Result TerminalDraft (List ℕ)
terminal_form d = do
  checked ← keyed (codes "cavity" ∷ codes "when" ∷ []) d
  cavity ← at_key name_form (codes "cavity") d
  when ← at_key formula_form (codes "when") d
  Ok (record { cavity = cavity; when = when })

-- the keys of a net
abbrev pub net_keys : ℕ → List (List ℕ)
net_keys version = keys_of version (codes "name" ∷ codes "terminals" ∷ []) (codes "class" ∷ [])

-- a net of a class, with its terminals
unfoldable pub net_form : ℕ → Data → Result NetDraft (List ℕ)
net_form version d = do
  checked ← keyed (net_keys version) d
  name ← at_key name_form (codes "name") d
  class ← class_form version d
  terminals ← at_key (list terminal_form) (codes "terminals") d
  Ok (record { name = name; class = class; terminals = terminals })
