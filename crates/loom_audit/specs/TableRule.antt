-- There is one table for each net that has a live set, in order of nets, and each is legal.
use Rattle.std.specs.Prelude.{ℕ, List, Ok, Err, Some, ◌≡◌, ◌-◌, ◌^◌, length, map, slice_get}
use Rattle.loom_topology.specs.Table.{cell_at}
use Rattle.loom_potential.specs.declared.first_break.FirstBreak.{FirstBreak}
use Rattle.loom_potential.specs.FirstBreak.{first_break}
use Rattle.loom_base.specs.First.{Check}
use Rattle.loom_project.specs.declared.draft.Draft.{Draft}
use Rattle.loom_project.specs.Project.{net_topology, cavities_of}
use Rattle.loom_types.specs.declared.plan.Plan.{Plan}
use Rattle.loom_types.specs.declared.plan.TableLine.{TableLine}
use Rattle.loom_types.specs.Modules.{distinct_in_order}
use Rattle.loom_audit.specs.declared.spot.PlanPart.TheVariants.{Tables}
use Rattle.loom_audit.specs.declared.spot.Spot.{Spot}
use Rattle.loom_audit.specs.FirstFailure.{Each, EachBefore, Agree, DifferFirst}
use Rattle.loom_audit.specs.Spots.{line_at}

-- the nets that have printed sets, each once
abbrev pub nets_with_sets : Plan → List ℕ
nets_with_sets plan = distinct_in_order (map (λ set. set.net.0) plan.sets)

-- a line has a table of a net, with the net's masks and the project's nodes
pub record IsTableFor (draft : Draft) (net : ℕ) (line : TableLine) : Type 0 where
  pub of_net : line.net.0 ≡ net
  pub masks : line.table.masks ≡ 2 ^ (length (cavities_of draft net) - 1) - 1
  pub nodes : line.table.nodes ≡ length draft.nodes

abbrev pub HasTables : Draft → Plan → Type 0
HasTables draft plan = Agree (IsTableFor draft) (nets_with_sets plan) plan.tables

-- the first inequality that a printed table breaks over the topology of its net
abbrev pub break_of : Draft → TableLine → Check FirstBreak
break_of draft line = first_break (net_topology draft line.net.0) (cavities_of draft line.net.0) (cell_at line.table)

pub record AreTablesLegal (draft : Draft) (plan : Plan) : Type 0 where
  pub lines : HasTables draft plan
  pub legal : Each (λ i line. break_of draft line ≡ Ok tt) plan.tables

-- the first line that differs; or else, in the first table that isn't legal, the cell of the first inequality that it breaks
pub data TablesFailAt (draft : Draft) (plan : Plan) : Spot → Type 0 where
  line : (at : ℕ) → DifferFirst (IsTableFor draft) (nets_with_sets plan) plan.tables at → TablesFailAt draft plan (line_at Tables at)
  cell : (at : ℕ) (table : TableLine) (found : FirstBreak) → HasTables draft plan
      → EachBefore (λ i line. break_of draft line ≡ Ok tt) plan.tables at
      → slice_get plan.tables at ≡ Some table → break_of draft table ≡ Err found
      → TablesFailAt draft plan (record { part = Tables; a = at; b = found.mask; c = found.node.0 })
