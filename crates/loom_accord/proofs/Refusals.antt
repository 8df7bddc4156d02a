-- No rule fails first of a plan that passes all nine.
use Rattle.std.proofs.Common.{◌≡◌, ℕ, List, Ok, sym, subst, ◌∙◌, arith, inl, inr}
use Rattle.std.proofs.lemmas.Bool.{false≢true}
use Rattle.std.proofs.lemmas.Option.{slice_get_within}
use Rattle.loom_project.specs.declared.draft.Draft.{Draft}
use Rattle.loom_project.specs.Project.{topology_of, net_topology}
use Rattle.loom_types.specs.declared.plan.Plan.{Plan}
use Rattle.loom_types.specs.declared.plan.Module.{Module}
use Rattle.loom_types.specs.declared.plan.SetLine.{SetLine}
use Rattle.loom_types.specs.declared.wire.Wire.{Wire}
use Rattle.loom_types.specs.Modules.{modules_of}
use Rattle.loom_types.specs.Routes.{IsRouted}
use Rattle.loom_types.specs.Slots.{Slot, IsSlotBefore}
use Rattle.loom_active.specs.LiveSets.{IsListedBefore}
use Rattle.loom_active.specs.SetWires.{SetFormsTree}
use Rattle.loom_audit.specs.declared.spot.Spot.{Spot}
use Rattle.loom_audit.specs.FirstFailure.{Agree}
use Rattle.loom_audit.specs.Rows.{IsReference, AreRowsSound, RowsFailAt, row as bad_row, set as bad_set_row, wire as bad_wire_row, module_ as bad_module_row}
use Rattle.loom_audit.specs.LiveLines.{AreLiveKeys, IsPrintedSet, AreSetsLive, SetsFailAt, set as bad_set}
use Rattle.loom_audit.specs.Trees.{TreesFailAt, set as bad_tree}
use Rattle.loom_audit.specs.RouteRule.{RoutesFailAt, wire as bad_route}
use Rattle.loom_audit.specs.PinRule.{EndsAtFreePins, PinsFailAt, wire as bad_pin, wires as bad_pins}
use Rattle.loom_audit.specs.TableRule.{IsTableFor, nets_with_sets, break_of, TablesFailAt, line as bad_table, cell as bad_cell}
use Rattle.loom_audit.specs.CostRule.{DoCostsAgree, CostsFailAt, set as bad_cost}
use Rattle.loom_audit.specs.LayoutRule.{IsLaidAtCost, AreSlotsOf, IsLineOfSlot, IsAfterLast, AreOfLayout, IsSameModule, LayoutsFailAt, laid as bad_layout, pin as bad_pin_line, order as bad_order, wires as bad_wires, module_ as bad_module}
use Rattle.loom_check.specs.Verdict.{PassesAll, ConditionFails, FailsFirst, rows, sets, condition, trees, routes, pins, tables, costs, layouts}
use Rattle.loom_accord.specs.Laws.{PassingNeverFails}
use Rattle.loom_plan.proofs.StrictOrders.{same-members, slots_once}
use Rattle.loom_accord.proofs.ListFacts.{none_without, never_differ}

abbrev pub IsKeyBefore : ℕ × ℕ → ℕ × ℕ → Type 0
IsKeyBefore one other = IsListedBefore one.0 one.1 other.0 other.1

pub keys_once : (one other : ℕ × ℕ) → IsKeyBefore one other → IsKeyBefore other one → ⊥
keys_once one other a b = elim a [
  | inl less ↦ elim b [ inl back ↦ omega (arith, less, back) | inr same ↦ omega (arith, less, same.0) ]
  | inr rest ↦ elim b [ inl back ↦ omega (arith, rest.0, back) | inr more ↦ omega (arith, rest.1, more.1) ]
]

module _ (draft : Draft) where
  -- a draft has one list of live sets
  pub same_keys : (one other : List (ℕ × ℕ)) → AreLiveKeys draft one → AreLiveKeys draft other → one ≡ other
  same_keys one other a b =
      same-members IsKeyBefore keys_once one other a.order b.order (λ key at. b.all key.0 key.1 (a.each key at))
      (λ key at. a.all key.0 key.1 (b.each key at))

  -- a plan has one list of slots
  same_slots : (plan : Plan) (one other : List Slot) → AreSlotsOf draft plan one → AreSlotsOf draft plan other → one ≡ other
  same_slots plan one other a b =
      same-members IsSlotBefore slots_once one other a.order b.order (λ slot at. b.all slot (a.each slot at))
      (λ slot at. a.all slot (b.each slot at))

module _ (draft : Draft) (plan : Plan) (passes : PassesAll draft plan) where
  sound : AreRowsSound draft plan
  sound = passes.conditions.sets.takes.rows

  no_row_fails : (place : Spot) → RowsFailAt draft plan place → ⊥
  no_row_fails place (bad_row number first) =
      false≢true (sym first.unreduced ∙ sound.rows first.i first.row (slice_get_within plan.rows first.i first.row first.at) first.at)
  no_row_fails place (bad_set_row at reduced first) =
      none_without (λ (i : ℕ) (s : SetLine). IsReference plan.rows s.row) plan.sets at sound.sets first
  no_row_fails place (bad_wire_row at reduced refer first) =
      none_without (λ (i : ℕ) (w : Wire). IsReference plan.rows w.row) plan.wires at sound.wires first
  no_row_fails place (bad_module_row at reduced refer also first) =
      none_without (λ (i : ℕ) (m : Module). IsReference plan.rows m.row) plan.modules at sound.modules first

  live : AreSetsLive draft plan
  live = passes.conditions.sets.sets

  no_set_fails : (place : Spot) → SetsFailAt draft plan place → ⊥
  no_set_fails place (bad_set at keys are differ) =
      never_differ (IsPrintedSet draft plan) keys plan.sets at
      (subst (λ (l : List (ℕ × ℕ)). Agree (IsPrintedSet draft plan) l plan.sets) (same_keys draft live.live keys live.keys are) live.printed)
      differ.there

  no_condition_fails : (at : ℕ) → ConditionFails draft plan at → ⊥
  no_condition_fails at first =
      first.fails (passes.conditions.conditions at first.wire (slice_get_within plan.wires at first.wire first.stands) first.stands)

  no_tree_fails : (place : Spot) → TreesFailAt draft plan place → ⊥
  no_tree_fails place (bad_tree at first) =
      none_without (λ (i : ℕ) (s : SetLine). SetFormsTree draft plan s) plan.sets at passes.trees first

  no_route_fails : (place : Spot) → RoutesFailAt draft plan place → ⊥
  no_route_fails place (bad_route at first) =
      none_without (λ (i : ℕ) (w : Wire). IsRouted (net_topology draft w.net.0) w) plan.wires at passes.routes first

  no_pin_fails : (place : Spot) → PinsFailAt draft plan place → ⊥
  no_pin_fails place (bad_pin at first) =
      none_without (λ (i : ℕ) (w : Wire). EndsAtFreePins draft w) plan.wires at passes.pins.free first
  no_pin_fails place (bad_pins i j free clash first) = passes.pins.apart i j clash

  no_table_fails : (place : Spot) → TablesFailAt draft plan place → ⊥
  no_table_fails place (bad_table at differ) =
      never_differ (IsTableFor draft) (nets_with_sets plan) plan.tables at passes.tables.lines differ.there
  no_table_fails place (bad_cell at table found lines before stands broken) =
      let whole : break_of draft table ≡ Ok tt = passes.tables.legal at table stands in
      let clash = sym whole ∙ broken in
      absurd (cc)

  no_cost_fails : (place : Spot) → CostsFailAt draft plan place → ⊥
  no_cost_fails place (bad_cost at first) =
      none_without (λ (i : ℕ) (s : SetLine). DoCostsAgree draft plan s) plan.sets at passes.costs first

  no_layout_fails : (place : Spot) → LayoutsFailAt draft plan place → ⊥
  no_layout_fails place (bad_layout at first) =
      none_without (λ (i : ℕ) (s : SetLine). IsLaidAtCost draft s) plan.sets at passes.layouts.laid first
  no_layout_fails place (bad_pin_line at slots out are differ) =
      let own = passes.layouts.pins in
      never_differ IsLineOfSlot slots plan.pins at
      (subst (λ (l : List Slot). Agree IsLineOfSlot l plan.pins) (same_slots draft plan own.slots slots own.are_slots are) own.lines)
      differ.there
  no_layout_fails place (bad_order at out lines first) = none_without (IsAfterLast plan) plan.wires at passes.layouts.rise first
  no_layout_fails place (bad_wires at out lines rise first) =
      none_without (λ (i : ℕ) (s : SetLine). AreOfLayout draft plan s) plan.sets at passes.layouts.wires first
  no_layout_fails place (bad_module at out lines rise of differ) =
      never_differ IsSameModule (modules_of (topology_of draft) plan.wires) plan.modules at passes.layouts.modules differ.there

  none_fails : (rule : ℕ) (place : Spot) → FailsFirst draft plan rule place → ⊥
  none_fails rule place (rows spot found bad) = no_row_fails spot bad
  none_fails rule place (sets spot takes bad) = no_set_fails spot bad
  none_fails rule place (condition at bad) = no_condition_fails at bad
  none_fails rule place (trees spot before bad) = no_tree_fails spot bad
  none_fails rule place (routes spot before one bad) = no_route_fails spot bad
  none_fails rule place (pins spot before one two bad) = no_pin_fails spot bad
  none_fails rule place (tables spot before one two three bad) = no_table_fails spot bad
  none_fails rule place (costs spot before one two three four bad) = no_cost_fails spot bad
  none_fails rule place (layouts spot before one two three four five bad) = no_layout_fails spot bad

pub passing_never_fails : PassingNeverFails
passing_never_fails draft plan passes rule place bad = none_fails draft plan passes rule place bad
