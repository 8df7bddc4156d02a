-- The laws of the crates below on which the law on plans stands.
use Rattle.loom_topology.specs.Laws.{LeastCostsAreLegal}
use Rattle.loom_types.specs.Laws.{LayoutWiresFormTree, LayoutWiresCost, LayoutWiresAreRouted, LayoutWiresEndAtPins}
use Rattle.loom_layout.specs.Laws.{LayoutsAreLeastTrees}
use Rattle.loom_active.specs.JoinsLaw.{PlansJoinNeeds, PlansGiveNetsTheirWires, PlansLeaveIdleNetsBare}

pub record LowerLaws : Type 0 where
  pub legal : LeastCostsAreLegal
  pub layouts : LayoutsAreLeastTrees
  pub forms : LayoutWiresFormTree
  pub costs : LayoutWiresCost
  pub routes : LayoutWiresAreRouted
  pub ends : LayoutWiresEndAtPins
  pub joins : PlansJoinNeeds
  pub wires : PlansGiveNetsTheirWires
  pub idle : PlansLeaveIdleNetsBare
