-- The laws of the crates below on which the law on plans that pass stands.
use Rattle.loom_topology.specs.Laws.{LegalIsBelowEveryTree}
use Rattle.loom_potential.specs.Laws.{UnbrokenIsLegal}
use Rattle.loom_types.specs.Laws.{LayoutWiresEndAtPins}
use Rattle.loom_active.specs.JoinsLaw.{PlansJoinNeeds, PlansGiveNetsTheirWires, PlansLeaveIdleNetsBare}

pub record LowerLaws : Type 0 where
  pub legal : UnbrokenIsLegal
  pub lowest : LegalIsBelowEveryTree
  pub ends : LayoutWiresEndAtPins
  pub joins : PlansJoinNeeds
  pub wires : PlansGiveNetsTheirWires
  pub idle : PlansLeaveIdleNetsBare
