-- Plans as they are written down.
use Rattle.std.specs.Prelude.{ℕ, List, [], ◌∷◌, Result, Ok, codes}
use Rattle.serde_json.specs.Data.{Data}
use Rattle.loom_base.specs.First.{◌>>=◌}
use Rattle.loom_base.specs.declared.positions.SegmentNo.{SegmentNo}
use Rattle.loom_json.specs.Forms.{keyed, at_key, at_index, list, required}
use Rattle.loom_types.specs.declared.plan.SetLine.{SetLine}
use Rattle.loom_types.specs.declared.plan.PinLine.{PinLine}
use Rattle.loom_types.specs.declared.plan.Module.{Module}
use Rattle.loom_types.specs.declared.plan.Plan.{Plan}
use Rattle.loom_answer.specs.NumberForms.{small_form, whole_form, pin_number_form, net_no_form, segment_no_form, items_of_length}
use Rattle.loom_answer.specs.RowForms.{rows_form}
use Rattle.loom_answer.specs.TableForms.{table_form}
use Rattle.loom_answer.specs.WireForms.{wire_form}

-- the parent's point and the segment of a step
unfoldable pub step_of : List Data → Result (ℕ × SegmentNo) (List ℕ)
step_of ds = do
  parent ← at_index small_form 0 ds
  segment ← at_index segment_no_form 1 ds
  Ok (parent, segment)

-- a step of a layout: an array of two
unfoldable pub step_form : Data → Result (ℕ × SegmentNo) (List ℕ)
step_form d = required (items_of_length 2 d) >>= step_of

-- the keys of a set
abbrev pub set_keys : List (List ℕ)
set_keys = codes "net" ∷ codes "mask" ∷ codes "cost" ∷ codes "row" ∷ codes "steps" ∷ codes "hangs" ∷ []

-- a set with its layout
unfoldable pub set_form : Data → Result SetLine (List ℕ)
set_form d = do
  checked ← keyed set_keys d
  net ← at_key net_no_form (codes "net") d
  mask ← at_key small_form (codes "mask") d
  cost ← at_key whole_form (codes "cost") d
  row ← at_key small_form (codes "row") d
  steps ← at_key (list step_form) (codes "steps") d
  hangs ← at_key (list small_form) (codes "hangs") d
  Ok (record { net = net; mask = mask; cost = cost; row = row; layout = record { steps = steps; hangs = hangs } })

-- the pin of a crossing
unfoldable pub pin_form : Data → Result PinLine (List ℕ)
pin_form d = do
  checked ← keyed (codes "net" ∷ codes "coupler" ∷ codes "ordinal" ∷ codes "pin" ∷ []) d
  net ← at_key net_no_form (codes "net") d
  coupler ← at_key segment_no_form (codes "coupler") d
  ordinal ← at_key small_form (codes "ordinal") d
  pin ← at_key pin_number_form (codes "pin") d
  Ok (record { net = net; coupler = coupler; ordinal = ordinal; pin = pin })

-- a module with its wires
unfoldable pub module_form : Data → Result Module (List ℕ)
module_form d = do
  checked ← keyed (codes "harness" ∷ codes "row" ∷ codes "wires" ∷ []) d
  harness ← at_key small_form (codes "harness") d
  row ← at_key small_form (codes "row") d
  wires ← at_key (list small_form) (codes "wires") d
  Ok (record { harness = harness; row = row; wires = wires })

-- the keys of a plan
abbrev pub plan_keys : List (List ℕ)
plan_keys = codes "rows" ∷ codes "sets" ∷ codes "tables" ∷ codes "pins" ∷ codes "wires" ∷ codes "modules" ∷ []

-- a plan, with its lists in reading order
unfoldable pub plan_form : Data → Result Plan (List ℕ)
plan_form d = do
  checked ← keyed plan_keys d
  rows ← at_key rows_form (codes "rows") d
  sets ← at_key (list set_form) (codes "sets") d
  tables ← at_key (list table_form) (codes "tables") d
  pins ← at_key (list pin_form) (codes "pins") d
  wires ← at_key (list wire_form) (codes "wires") d
  modules ← at_key (list module_form) (codes "modules") d
  Ok (record { rows = rows; sets = sets; tables = tables; pins = pins; wires = wires; modules = modules })
