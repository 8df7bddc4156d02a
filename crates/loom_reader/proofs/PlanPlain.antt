-- A plan that is read back is shown plainly.
use Rattle.std.proofs.Common.{ℕ, zero, suc, ◌+◌, ◌^◌, ◌≤◌, List, [], ◌∷◌, Option, Some, None, IfSome, map, refl, arith}
use Rattle.std.specs.Prelude.{slice_index_or}
use Rattle.std.specs.List.{All, range_with_len}
use Rattle.std.proofs.lemmas.List.Elements.{All-head, All-tail}
use Rattle.serde_json.specs.Data.{Data}
use Rattle.serde_json.specs.View.{items_of}
use Rattle.loom_base.specs.declared.positions.SegmentNo.{SegmentNo}
use Rattle.loom_formula.specs.declared.row_list.Row.{Row}
use Rattle.loom_topology.specs.Table.{cell_at, cell_index}
use Rattle.loom_types.specs.declared.plan.SetLine.{SetLine}
use Rattle.loom_types.specs.declared.plan.PinLine.{PinLine}
use Rattle.loom_types.specs.declared.plan.TableLine.{TableLine}
use Rattle.loom_types.specs.declared.plan.Module.{Module}
use Rattle.loom_types.specs.declared.plan.Plan.{Plan}
use Rattle.loom_types.specs.declared.wire.End.{End}
use Rattle.loom_types.specs.declared.wire.End.TheVariants.{Cavity, Splice, Pin}
use Rattle.loom_types.specs.declared.wire.Wire.{Wire}
use Rattle.loom_answer.specs.Values.{whole}
use Rattle.loom_answer.specs.Wires.{segment_shown, end_shown, wire_shown}
use Rattle.loom_answer.specs.Plans.{row_shown, step_shown, set_shown, cell_shown, mask_shown, table_shown, pin_shown, module_shown, plan_shown}
use Rattle.loom_answer.specs.Readable.{IsSmall, IsRowReadable, IsStepReadable, IsSetReadable, IsTableReadable, IsPinReadable, IsEndReadable, IsWireReadable, IsModuleReadable, IsReadable}
use Rattle.loom_reader.proofs.Plain.{IsPlain, ItemsArePlain}

-- a list of things that are shown plainly
all_plain : {X : Type 0} (shows : X → Data) (n : ℕ) (P : X → Type 0) → ((x : X) → P x → IsPlain (shows x) n) → (xs : List X) → All P xs → ItemsArePlain (items_of (map shows xs)) n
all_plain shows n P plain [] all = tt
all_plain shows n P plain (x ∷ xs) all = (plain x (All-head P x xs all), all_plain shows n P plain xs (All-tail P x xs all))

-- the same, whatever the things are
every_plain : {X : Type 0} (shows : X → Data) (n : ℕ) → ((x : X) → IsPlain (shows x) n) → (xs : List X) → ItemsArePlain (items_of (map shows xs)) n
every_plain shows n plain [] = tt
every_plain shows n plain (x ∷ xs) = (plain x, every_plain shows n plain xs)

small_plain : (n k : ℕ) → IsSmall k → IsPlain (whole k) n
small_plain n k small = omega (arith, small)

row_plain : (n : ℕ) (row : Row) → IsRowReadable row → IsPlain (row_shown row) (suc n)
row_plain n row is = (small_plain n row.option is.option_small, (small_plain n row.low is.low_small, (small_plain n row.high is.high_small, tt)))

step_plain : (n : ℕ) (step : ℕ × SegmentNo) → IsStepReadable step → IsPlain (step_shown step) (suc n)
step_plain n step is = (small_plain n step.0 is.parent_small, (small_plain n step.1.0 is.segment_small, tt))

set_plain : (n : ℕ) (line : SetLine) → IsSetReadable line → IsPlain (set_shown line) (suc (suc (suc n)))
set_plain n line is =
    let deep = suc (suc n) in
    let hangs = all_plain whole (suc n) IsSmall (small_plain (suc n)) line.layout.hangs is.each_hang in
    let steps = all_plain step_shown (suc n) IsStepReadable (step_plain n) line.layout.steps is.each_step in
    (refl, (omega (arith, is.cost_wide), (hangs, (small_plain deep line.mask is.mask_small, (small_plain deep line.net.0 is.net_small, (small_plain deep line.row is.row_small, (steps, tt)))))))

-- a number that a table may hold
abbrev IsCell : Option ℕ → Type 0
IsCell cell = IfSome cell (λ value. value ≤ 2 ^ 40)

cell_plain : (n : ℕ) (cell : Option ℕ) → IsCell cell → IsPlain (cell_shown cell) n
cell_plain n None is = tt
cell_plain n (Some value) is = omega (arith, is)

-- a cell that is looked up, also one past the table's end
found_cell : (cells : List (Option ℕ)) (at : ℕ) → All IsCell cells → IsCell (slice_index_or cells at None)
found_cell [] at all = tt
found_cell (cell ∷ cells) zero all = All-head IsCell cell cells all
found_cell (cell ∷ cells) (suc at) all = found_cell cells at (All-tail IsCell cell cells all)

table_plain : (n : ℕ) (line : TableLine) → IsTableReadable line → IsPlain (table_shown line) (suc (suc (suc n)))
table_plain n line is =
    let table = line.table in
    let mask_plain : (mask : ℕ) → IsPlain (mask_shown table mask) (suc n) =
    λ mask. every_plain (λ v. cell_shown (cell_at table mask v)) n (λ v. cell_plain n (cell_at table mask v) (found_cell table.cells (cell_index table mask v) is.is_whole.small)) (range_with_len 0 table.nodes) in
    let masks = every_plain (λ place. mask_shown table (place + 1)) (suc n) (λ place. mask_plain (place + 1)) (range_with_len 0 table.masks) in
    (refl, (masks, (small_plain (suc (suc n)) line.net.0 is.net_small, tt)))

pin_plain : (n : ℕ) (line : PinLine) → IsPinReadable line → IsPlain (pin_shown line) (suc n)
pin_plain n line is = (refl, (small_plain n line.coupler.0 is.coupler_small, (small_plain n line.net.0 is.net_small, (small_plain n line.ordinal is.ordinal_small, (omega (arith, is.pin_number), tt)))))

end_plain : (n : ℕ) (end : End) → IsEndReadable end → IsPlain (end_shown end) (suc n)
end_plain n (Cavity cavity) is = (refl, (small_plain n cavity.0 is, tt))
end_plain n (Splice node ordinal) is = (refl, (small_plain n node.0 is.0, (small_plain n ordinal is.1, tt)))
end_plain n (Pin coupler pin side) is = (refl, (small_plain n coupler.0 is.0, (omega (arith, is.1), (small_plain n side is.2, tt))))

wire_plain : (n : ℕ) (w : Wire) → IsWireReadable w → IsPlain (wire_shown w) (suc (suc n))
wire_plain n w is =
    let route = all_plain segment_shown n (λ segment. IsSmall segment.0) (λ segment small. small_plain n segment.0 small) w.route is.each_segment in
    let row = small_plain (suc n) w.row is.row_small in
    (refl, (end_plain n w.from is.from_readable, (omega (arith, is.length_wide), (small_plain (suc n) w.net.0 is.net_small, (route, (row, (end_plain n w.to is.to_readable, tt)))))))

module_plain : (n : ℕ) (part : Module) → IsModuleReadable part → IsPlain (module_shown part) (suc (suc n))
module_plain n part is =
    let wires = all_plain whole n IsSmall (small_plain n) part.wires is.each_wire in
    (refl, (small_plain (suc n) part.harness is.harness_small, (small_plain (suc n) part.row is.row_small, (wires, tt))))

pub plan_plain : (n : ℕ) (plan : Plan) → IsReadable plan → IsPlain (plan_shown plan) (suc (suc (suc (suc (suc n)))))
plan_plain n plan is =
    let deep = suc (suc (suc n)) in
    let modules = all_plain module_shown deep IsModuleReadable (module_plain (suc n)) plan.modules is.each_module in
    let pins = all_plain pin_shown deep IsPinReadable (pin_plain (suc (suc n))) plan.pins is.each_pin in
    let rows = all_plain row_shown deep IsRowReadable (row_plain (suc (suc n))) plan.rows is.each_row in
    let sets = all_plain set_shown deep IsSetReadable (set_plain n) plan.sets is.each_set in
    let tables = all_plain table_shown deep IsTableReadable (table_plain n) plan.tables is.each_table in
    let wires = all_plain wire_shown deep IsWireReadable (wire_plain (suc n)) plan.wires is.each_wire in
    (refl, (modules, (pins, (rows, (sets, (tables, (wires, tt)))))))
