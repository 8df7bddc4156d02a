-- What the wires of a set cost, its printed cost, and the cell of its net's table are one number.
use Rattle.std.specs.Prelude.{ℕ, List, Some, ◌≡◌, Contains}
use Rattle.loom_topology.specs.Table.{cell_at}
use Rattle.loom_project.specs.declared.draft.Draft.{Draft}
use Rattle.loom_project.specs.Project.{net_topology, cavities_of}
use Rattle.loom_types.specs.declared.plan.Plan.{Plan}
use Rattle.loom_types.specs.declared.plan.SetLine.{SetLine}
use Rattle.loom_types.specs.declared.plan.TableLine.{TableLine}
use Rattle.loom_types.specs.declared.wire.Wire.{Wire}
use Rattle.loom_types.specs.SetMask.{rest_of, stem_node}
use Rattle.loom_types.specs.WireCost.{wires_cost}
use Rattle.loom_audit.specs.declared.spot.PlanPart.TheVariants.{Sets}
use Rattle.loom_audit.specs.declared.spot.Spot.{Spot}
use Rattle.loom_audit.specs.FirstFailure.{Each, IsFirstWithout}
use Rattle.loom_audit.specs.SetWires.{AreWiresOf}
use Rattle.loom_audit.specs.Spots.{line_at}

-- the cell for all of the set's cavities but the first, at the first one's node
pub record IsCellOf (draft : Draft) (plan : Plan) (set : SetLine) (cost : ℕ) : Type 0 where
  pub line : TableLine
  pub printed : Contains plan.tables line
  pub of_net : line.net.0 ≡ set.net.0
  pub cell : cell_at line.table (rest_of set.mask) (stem_node (net_topology draft set.net.0) (cavities_of draft set.net.0) set.mask)
      ≡ Some cost

pub record DoCostsAgree (draft : Draft) (plan : Plan) (set : SetLine) : Type 0 where
  pub cell : IsCellOf draft plan set set.cost
  pub wires : List Wire
  pub are_its : AreWiresOf plan set wires
  pub cost : wires_cost (net_topology draft set.net.0) wires ≡ set.cost

abbrev pub AreCostsEqual : Draft → Plan → Type 0
AreCostsEqual draft plan = Each (λ i set. DoCostsAgree draft plan set) plan.sets

-- the first set of which they aren't
pub data CostsFailAt (draft : Draft) (plan : Plan) : Spot → Type 0 where
  set : (at : ℕ) → IsFirstWithout (λ i set. DoCostsAgree draft plan set) plan.sets at → CostsFailAt draft plan (line_at Sets at)
