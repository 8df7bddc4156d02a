-- What is asked of a plan so that what is printed of it is read as that plan: each number in the range of its form, each list short enough for an array, and each table with a mask.
use Rattle.std.specs.Prelude.{◌≡◌, ℕ, ◌≤◌, List, All, length, Ok}
use Rattle.loom_base.specs.declared.limits.TheConstants.{MAX_ELEMENTS}
use Rattle.loom_base.specs.declared.positions.SegmentNo.{SegmentNo}
use Rattle.loom_formula.specs.RowList.{AreBelow}
use Rattle.loom_formula.specs.declared.row_list.Row.{Row}
use Rattle.loom_topology.specs.Table.{IsWhole}
use Rattle.loom_types.specs.declared.wire.End.{End}
use Rattle.loom_types.specs.declared.wire.End.TheVariants.{Cavity, Splice, Pin}
use Rattle.loom_types.specs.declared.wire.Wire.{Wire}
use Rattle.loom_types.specs.declared.plan.SetLine.{SetLine}
use Rattle.loom_types.specs.declared.plan.PinLine.{PinLine}
use Rattle.loom_types.specs.declared.plan.TableLine.{TableLine}
use Rattle.loom_types.specs.declared.plan.Module.{Module}
use Rattle.loom_types.specs.declared.plan.Plan.{Plan}
use Rattle.loom_answer.specs.PlanForms.{plan_form}
use Rattle.loom_answer.specs.Plans.{plan_shown}

-- a number of 32 bits
abbrev pub IsSmall : ℕ → Type 0
IsSmall n = n ≤ 4294967295

-- a number of 64 bits
abbrev pub IsWide : ℕ → Type 0
IsWide n = n ≤ 18446744073709551615

-- the number of a pin, of 16 bits
abbrev pub IsPinNumber : ℕ → Type 0
IsPinNumber n = n ≤ 65535

-- an array may hold the list
abbrev pub IsFew : {X : Type 0} → List X → Type 0
IsFew xs = length xs ≤ MAX_ELEMENTS

-- the numbers of a row
pub record IsRowReadable (row : Row) : Type 0 where
  pub option_small : IsSmall row.option
  pub low_small : IsSmall row.low
  pub high_small : IsSmall row.high

-- the numbers of a step
pub record IsStepReadable (step : ℕ × SegmentNo) : Type 0 where
  pub parent_small : IsSmall step.0
  pub segment_small : IsSmall step.1.0

-- the numbers and lists of a set
pub record IsSetReadable (line : SetLine) : Type 0 where
  pub net_small : IsSmall line.net.0
  pub mask_small : IsSmall line.mask
  pub cost_wide : IsWide line.cost
  pub row_small : IsSmall line.row
  pub few_steps : IsFew line.layout.steps
  pub each_step : All IsStepReadable line.layout.steps
  pub few_hangs : IsFew line.layout.hangs
  pub each_hang : All IsSmall line.layout.hangs

-- the net and the size of a table, which has a mask; that it is whole is said of every table
pub record IsTableReadable (line : TableLine) : Type 0 where
  pub net_small : IsSmall line.net.0
  pub some_mask : 1 ≤ line.table.masks
  pub few_masks : line.table.masks ≤ MAX_ELEMENTS
  pub few_nodes : line.table.nodes ≤ MAX_ELEMENTS
  pub is_whole : IsWhole line.table

-- the numbers of a crossing's pin
pub record IsPinReadable (line : PinLine) : Type 0 where
  pub net_small : IsSmall line.net.0
  pub coupler_small : IsSmall line.coupler.0
  pub ordinal_small : IsSmall line.ordinal
  pub pin_number : IsPinNumber line.pin

-- the numbers of an end
abbrev pub IsEndReadable : End → Type 0
IsEndReadable (Cavity cavity) = IsSmall cavity.0
IsEndReadable (Splice node ordinal) = IsSmall node.0 × IsSmall ordinal
IsEndReadable (Pin coupler pin side) = IsSmall coupler.0 × IsPinNumber pin × IsSmall side

-- the numbers, the ends and the route of a wire
pub record IsWireReadable (w : Wire) : Type 0 where
  pub net_small : IsSmall w.net.0
  pub from_readable : IsEndReadable w.from
  pub to_readable : IsEndReadable w.to
  pub few_segments : IsFew w.route
  pub each_segment : All (λ segment. IsSmall segment.0) w.route
  pub length_wide : IsWide w.length
  pub row_small : IsSmall w.row

-- the numbers and the wires of a module
pub record IsModuleReadable (part : Module) : Type 0 where
  pub harness_small : IsSmall part.harness
  pub row_small : IsSmall part.row
  pub few_wires : IsFew part.wires
  pub each_wire : All IsSmall part.wires

-- the lists of a plan; that low and high of its rows are below the rows' numbers is said of every list of rows
pub record IsReadable (plan : Plan) : Type 0 where
  pub few_rows : IsFew plan.rows
  pub each_row : All IsRowReadable plan.rows
  pub are_below : AreBelow plan.rows
  pub few_sets : IsFew plan.sets
  pub each_set : All IsSetReadable plan.sets
  pub few_tables : IsFew plan.tables
  pub each_table : All IsTableReadable plan.tables
  pub few_pins : IsFew plan.pins
  pub each_pin : All IsPinReadable plan.pins
  pub few_wires : IsFew plan.wires
  pub each_wire : All IsWireReadable plan.wires
  pub few_modules : IsFew plan.modules
  pub each_module : All IsModuleReadable plan.modules

-- what is printed of a plan is read as that plan
abbrev pub IsReadBack : Plan → Type 0
IsReadBack plan = IsReadable plan → plan_form (plan_shown plan) ≡ Ok plan
