use Rattle.std.specs.Prelude.{ℕ, [], ◌∷◌, ◌+◌, map, codes, Option, Some, None}
use Rattle.std.specs.List.{range_with_len}
use Rattle.serde_json.specs.Data.{Data, null, object, Members, put, no_members}
use Rattle.loom_base.specs.declared.positions.SegmentNo.{SegmentNo}
use Rattle.loom_formula.specs.declared.row_list.Row.{Row}
use Rattle.loom_topology.specs.Table.{TableView, cell_at}
use Rattle.loom_types.specs.declared.layout.Layout.{Layout}
use Rattle.loom_types.specs.declared.plan.SetLine.{SetLine}
use Rattle.loom_types.specs.declared.plan.PinLine.{PinLine}
use Rattle.loom_types.specs.declared.plan.TableLine.{TableLine}
use Rattle.loom_types.specs.declared.plan.Module.{Module}
use Rattle.loom_types.specs.declared.plan.Plan.{Plan}
use Rattle.loom_json.specs.Fields.{array_of}
use Rattle.loom_answer.specs.Values.{whole, numbers}
use Rattle.loom_answer.specs.Wires.{wire_shown}

-- a row is printed as its option, its low and its high
abbrev pub row_shown : Row → Data
row_shown row = numbers (row.option ∷ row.low ∷ row.high ∷ [])

-- a step is printed as its parent's point and its segment
abbrev pub step_shown : ℕ × SegmentNo → Data
step_shown step = numbers (step.0 ∷ step.1.0 ∷ [])

-- an object's members with those that show a layout
abbrev pub with_layout_shown : Layout → Members → Members
with_layout_shown layout members =
    put (codes "steps") (array_of (map step_shown layout.steps))
    (put (codes "hangs") (array_of (map whole layout.hangs)) members)

-- how a live set is printed
abbrev pub set_shown : SetLine → Data
set_shown line = object (with_layout_shown line.layout
    (put (codes "row") (whole line.row)
    (put (codes "net") (whole line.net.0)
    (put (codes "mask") (whole line.mask)
    (put (codes "cost") (whole line.cost)
    no_members)))))

-- a cell is printed as its number, or as null where there is none
abbrev pub cell_shown : Option ℕ → Data
cell_shown None = null
cell_shown (Some n) = whole n

-- the cells of a mask, node by node
abbrev pub mask_shown : TableView → ℕ → Data
mask_shown table mask = array_of (map (λ v. cell_shown (cell_at table mask v)) (range_with_len 0 table.nodes))

-- the cells of a table, mask by mask
abbrev pub cells_shown : TableView → Data
cells_shown table = array_of (map (λ place. mask_shown table (place + 1)) (range_with_len 0 table.masks))

-- how a table is printed
abbrev pub table_shown : TableLine → Data
table_shown line = object
    (put (codes "net") (whole line.net.0)
    (put (codes "cells") (cells_shown line.table)
    no_members))

-- how the pin of a crossing is printed
abbrev pub pin_shown : PinLine → Data
pin_shown line = object
    (put (codes "pin") (whole line.pin)
    (put (codes "ordinal") (whole line.ordinal)
    (put (codes "net") (whole line.net.0)
    (put (codes "coupler") (whole line.coupler.0)
    no_members))))

-- how a module is printed
abbrev pub module_shown : Module → Data
module_shown part = object
    (put (codes "wires") (array_of (map whole part.wires))
    (put (codes "row") (whole part.row)
    (put (codes "harness") (whole part.harness)
    no_members)))

-- how a plan is printed
abbrev pub plan_shown : Plan → Data
plan_shown plan = object
    (put (codes "wires") (array_of (map wire_shown plan.wires))
    (put (codes "tables") (array_of (map table_shown plan.tables))
    (put (codes "sets") (array_of (map set_shown plan.sets))
    (put (codes "rows") (array_of (map row_shown plan.rows))
    (put (codes "pins") (array_of (map pin_shown plan.pins))
    (put (codes "modules") (array_of (map module_shown plan.modules))
    no_members))))))
