-- Wires as they are written down.
use Rattle.std.specs.Prelude.{ℕ, List, [], ◌∷◌, if◌then◌else◌, Result, Ok, Err, codes}
use Rattle.serde_json.specs.Data.{Data}
use Rattle.loom_base.specs.First.{◌>>=◌}
use Rattle.loom_json.specs.Forms.{keyed, at_key, at_index, list, required, items_in, is_tagged}
use Rattle.loom_types.specs.declared.wire.End.{End}
use Rattle.loom_types.specs.declared.wire.End.TheVariants.{Cavity, Splice, Pin}
use Rattle.loom_types.specs.declared.wire.Wire.{Wire}
use Rattle.loom_answer.specs.NumberForms.{small_form, whole_form, pin_number_form, net_no_form, node_no_form, segment_no_form, cavity_no_form}

-- the cavity behind its word
unfoldable pub cavity_end : List Data → Result End (List ℕ)
cavity_end ds = at_index cavity_no_form 1 ds >>= λ cavity. Ok (Cavity cavity)

-- the node and the ordinal of a splice, behind its word
unfoldable pub splice_end : List Data → Result End (List ℕ)
splice_end ds = do
  node ← at_index node_no_form 1 ds
  ordinal ← at_index small_form 2 ds
  Ok (Splice node ordinal)

-- the coupler, the pin and the side, behind their word
unfoldable pub pin_end : List Data → Result End (List ℕ)
pin_end ds = do
  coupler ← at_index segment_no_form 1 ds
  pin ← at_index pin_number_form 2 ds
  side ← at_index small_form 3 ds
  Ok (Pin coupler pin side)

-- an end of so many elements as its word asks for; the elements behind the word are looked at last
unfoldable pub end_of : List Data → Result End (List ℕ)
end_of ds =
    if is_tagged (codes "cavity") 2 ds then cavity_end ds
    else (if is_tagged (codes "splice") 3 ds then splice_end ds
    else (if is_tagged (codes "pin") 4 ds then pin_end ds else Err []))

-- an end of a wire
unfoldable pub end_form : Data → Result End (List ℕ)
end_form d = required (items_in d) >>= end_of

-- a wire
unfoldable pub wire_form : Data → Result Wire (List ℕ)
wire_form d = do
  checked ← keyed (codes "net" ∷ codes "from" ∷ codes "to" ∷ codes "route" ∷ codes "length" ∷ codes "row" ∷ []) d
  net ← at_key net_no_form (codes "net") d
  from ← at_key end_form (codes "from") d
  to ← at_key end_form (codes "to") d
  route ← at_key (list segment_no_form) (codes "route") d
  length ← at_key whole_form (codes "length") d
  row ← at_key small_form (codes "row") d
  Ok (record { net = net; from = from; to = to; route = route; length = length; row = row })
