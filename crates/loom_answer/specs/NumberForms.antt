-- Numbers and short arrays of numbers as they are written down.
use Rattle.std.specs.Prelude.{ℕ, List, length, ◌==◌, if◌then◌else◌, Option, Some, None, option_and_then, Result, Ok}
use Rattle.serde_json.specs.Data.{Data}
use Rattle.loom_base.specs.First.{◌>>=◌}
use Rattle.loom_base.specs.declared.positions.CavityNo.{CavityNo}
use Rattle.loom_base.specs.declared.positions.NetNo.{NetNo}
use Rattle.loom_base.specs.declared.positions.NodeNo.{NodeNo}
use Rattle.loom_base.specs.declared.positions.SegmentNo.{SegmentNo}
use Rattle.loom_json.specs.Forms.{number_form, items_in}

-- a whole number of 32 bits
abbrev pub small_form : Data → Result ℕ (List ℕ)
small_form = number_form 0 4294967295

-- any whole number
abbrev pub whole_form : Data → Result ℕ (List ℕ)
whole_form = number_form 0 18446744073709551615

-- the number of a pin
abbrev pub pin_number_form : Data → Result ℕ (List ℕ)
pin_number_form = number_form 0 65535

-- the position of a net
abbrev pub net_no_form : Data → Result NetNo (List ℕ)
net_no_form d = small_form d >>= λ n. Ok (record { 0 = n })

-- the position of a node
abbrev pub node_no_form : Data → Result NodeNo (List ℕ)
node_no_form d = small_form d >>= λ n. Ok (record { 0 = n })

-- the position of a segment
abbrev pub segment_no_form : Data → Result SegmentNo (List ℕ)
segment_no_form d = small_form d >>= λ n. Ok (record { 0 = n })

-- the position of a cavity
abbrev pub cavity_no_form : Data → Result CavityNo (List ℕ)
cavity_no_form d = small_form d >>= λ n. Ok (record { 0 = n })

-- the elements of an array that has exactly so many
abbrev pub items_of_length : ℕ → Data → Option (List Data)
items_of_length count d = option_and_then (λ ds. if length ds == count then Some ds else None) (items_in d)
