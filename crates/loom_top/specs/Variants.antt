-- What is printed of the wires that one choice makes live.
use Rattle.std.specs.Prelude.{ℕ, List, map, codes, slice_index_or}
use Rattle.serde_json.specs.Data.{Data, null, object, put, no_members}
use Rattle.loom_json.specs.Fields.{array_of}
use Rattle.loom_types.specs.declared.plan.Plan.{Plan}
use Rattle.loom_types.specs.declared.wire.Wire.{Wire}
use Rattle.loom_answer.specs.Values.{whole, numbers}
use Rattle.loom_answer.specs.Wires.{wire_shown}

-- how the wire at a position of a plan is printed; past the last one there is none
abbrev pub wire_at_shown : List Wire → ℕ → Data
wire_at_shown wires at = slice_index_or (map wire_shown wires) at null

-- what is printed of the wires of a plan at some positions
abbrev pub variant_shown : Plan → List ℕ → Data
variant_shown plan positions = object
    (put (codes "version") (whole 1)
    (put (codes "variant") (object
    (put (codes "wires") (array_of (map (wire_at_shown plan.wires) positions))
    (put (codes "numbers") (numbers positions)
    no_members)))
    no_members))
