use Rattle.std.specs.Prelude.{ℕ, Bool, List, Some, ◌≡◌, ◌<◌, ◌++◌, ◌↔◌, map, length, AllPairs, Contains, IsTrue}
use Rattle.loom_formula.specs.RowList.{value_of}
use Rattle.loom_rows.specs.RowLists.{meaning_at, AreOptionsBelow}
use Rattle.loom_rows.specs.Printed.{IsPrinted}
use Rattle.loom_topology.specs.Table.{cell_at, IsWhole}
use Rattle.loom_project.specs.declared.draft.Draft.{Draft}
use Rattle.loom_project.specs.Project.{topology_of, net_topology, cavities_of}
use Rattle.loom_types.specs.declared.plan.Plan.{Plan}
use Rattle.loom_types.specs.declared.plan.SetLine.{SetLine}
use Rattle.loom_types.specs.declared.plan.TableLine.{TableLine}
use Rattle.loom_types.specs.declared.wire.Wire.{Wire}
use Rattle.loom_types.specs.Laws.{set_wires}
use Rattle.loom_types.specs.LayoutWires.{bare}
use Rattle.loom_types.specs.Modules.{modules_of}
use Rattle.loom_types.specs.PinLines.{pin_in}
use Rattle.loom_types.specs.SetMask.{rest_of, stem_node}
use Rattle.loom_types.specs.WireOrder.{IsWireBefore}
use Rattle.loom_steiner.specs.LeastTable.{IsLeastTable}
use Rattle.loom_layout.specs.Layout.{IsLayoutOf}
use Rattle.loom_active.specs.Valid.{SomeIsValid}
use Rattle.loom_active.specs.Clash.{HasNoClash}
use Rattle.loom_active.specs.LiveSets.{PrintsLiveSets}
use Rattle.loom_plan.specs.Pins.{ArePlanPins}

-- the printed tables: one for each net that has a live set, in order of nets, with the least costs over the net's topology
pub record ArePlanTables (draft : Draft) (plan : Plan) : Type 0 where
  pub order : AllPairs (λ one other. one.net.0 < other.net.0) plan.tables
  pub each : (line : TableLine) → Contains plan.tables line → (set : SetLine) × Contains plan.sets set × (set.net.0 ≡ line.net.0)
  pub all : (set : SetLine) → Contains plan.sets set → (line : TableLine) × Contains plan.tables line × (line.net.0 ≡ set.net.0)
  pub least : (line : TableLine) → Contains plan.tables line
      → IsLeastTable (net_topology draft line.net.0) (cavities_of draft line.net.0) line.table
  pub whole : (line : TableLine) → Contains plan.tables line → IsWhole line.table

-- a printed set has the layout that the least costs of its net fix, and costs what its net's table says
pub record IsLaidLine (draft : Draft) (plan : Plan) (set : SetLine) : Type 0 where
  pub line : TableLine
  pub printed : Contains plan.tables line
  pub of_net : line.net.0 ≡ set.net.0
  pub layout : IsLayoutOf (net_topology draft set.net.0) (cavities_of draft set.net.0) (cell_at line.table) set.mask set.layout
  pub cost : cell_at line.table (rest_of set.mask) (stem_node (net_topology draft set.net.0) (cavities_of draft set.net.0) set.mask)
      ≡ Some set.cost

-- the wires of a printed set's layout, with the printed pins
abbrev pub wires_of_line : Draft → Plan → SetLine → List Wire
wires_of_line draft plan set =
    set_wires (topology_of draft) set.net.0 (pin_in plan.pins set.net.0) (cavities_of draft set.net.0) set.mask set.layout

-- the printed wires: those of the sets' layouts, each once, by net, from, to and route; a wire's condition holds exactly where that of a
-- set holds whose layout has the wire
pub record ArePlanWires (draft : Draft) (plan : Plan) : Type 0 where
  pub order : AllPairs IsWireBefore plan.wires
  pub each : (w : Wire) → Contains plan.wires w → (set : SetLine) × Contains plan.sets set × Contains (wires_of_line draft plan set) (bare w)
  pub all : (set : SetLine) (l : Wire) → Contains plan.sets set → Contains (wires_of_line draft plan set) l
      → (w : Wire) × Contains plan.wires w × (bare w ≡ l)
  pub condition : (w : Wire) → Contains plan.wires w → (choice : ℕ → Bool)
      → IsTrue (value_of plan.rows choice w.row)
      ↔ ((set : SetLine) × Contains plan.sets set × Contains (wires_of_line draft plan set) (bare w)
      × IsTrue (value_of plan.rows choice set.row))

-- the numbers of the printed conditions: those of the sets, then those of the wires
abbrev pub printed_numbers : Plan → List ℕ
printed_numbers plan = map (λ set. set.row) plan.sets ++ map (λ w. w.row) plan.wires

-- the printed rows are exactly those that these conditions need, in the order of their walks
pub record ArePlanRows (draft : Draft) (plan : Plan) : Type 0 where
  pub printed : IsPrinted (map (meaning_at plan.rows) (printed_numbers plan)) plan.rows (printed_numbers plan)
  pub options : AreOptionsBelow (length draft.options) plan.rows

-- the plan of a project: some choice is valid and none makes a cavity active in two nets; the live sets with their conditions, layouts and
-- costs, the tables of least costs, pins by first fit, the wires of the layouts, their modules, and the rows of all conditions
pub record IsPlanOf (draft : Draft) (plan : Plan) : Type 0 where
  pub some_choice : SomeIsValid draft
  pub clear : HasNoClash draft
  pub sets : PrintsLiveSets draft plan
  pub tables : ArePlanTables draft plan
  pub laid : (set : SetLine) → Contains plan.sets set → IsLaidLine draft plan set
  pub pins : ArePlanPins draft plan
  pub wires : ArePlanWires draft plan
  pub modules : plan.modules ≡ modules_of (topology_of draft) plan.wires
  pub rows : ArePlanRows draft plan
