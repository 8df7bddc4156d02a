-- The layouts of a plan are wiring trees of the printed costs, its pins are those of their slots, its wires rise and are those of the
-- layouts, and its modules are those of the wires.
use Rattle.std.proofs.Common.{◌≡◌, ℕ, ◌<◌, List, [], ◌∷◌, length, map, get_or, Ok, Some, slice_get, refl, sym, ap, subst, ◌∙◌, arith, Contains, filter}
use Rattle.std.specs.Prelude.{IsPermutation}
use Rattle.std.specs.List.{AllPairs}
use Rattle.std.proofs.lemmas.List.{length-map}
use Rattle.std.proofs.lemmas.List.Sorted.{IsPermutation-refl, IsPermutation-cons, IsPermutation-middle, IsPermutation-trans}
use Rattle.std.proofs.lemmas.Option.{same_Some, slice_get_within, get_or_from_slice_get}
use Rattle.loom_base.proofs.Contained.{Contains-map, Contains-from_map, Contains-filter, Contains-from_filter}
use Rattle.loom_project.specs.declared.draft.Draft.{Draft}
use Rattle.loom_project.specs.Project.{topology_of, net_topology, cavities_of, HasSoundTopologies}
use Rattle.loom_project.specs.Sound.{draft_check}
use Rattle.loom_types.specs.declared.plan.Module.{Module}
use Rattle.loom_types.specs.declared.plan.Plan.{Plan}
use Rattle.loom_types.specs.declared.plan.SetLine.{SetLine}
use Rattle.loom_types.specs.declared.wire.Wire.{Wire}
use Rattle.loom_types.specs.Laws.{set_cavities}
use Rattle.loom_types.specs.LayoutWires.{bare}
use Rattle.loom_types.specs.PinLines.{pin_in}
use Rattle.loom_types.specs.Slots.{Slot, slot_of, IsSlotOf}
use Rattle.loom_types.specs.WireOrder.{IsWireBefore}
use Rattle.loom_types.specs.WireTree.{ends_of, FormsTree}
use Rattle.loom_active.proofs.Pairs.{slice_get-map}
use Rattle.loom_plan.specs.PlanOf.{IsPlanOf, wires_of_line}
use Rattle.loom_plan.proofs.LowerLaws.{LowerLaws}
use Rattle.loom_plan.proofs.PrintedPins.{own_pins}
use Rattle.loom_plan.proofs.PrintedSets.{set_different, set_costs}
use Rattle.loom_plan.proofs.Reorder.{Reordered, nothing, keep, turn, then, AreDifferent, reordered-from_members, different-from_map}
use Rattle.loom_plan.proofs.SameWires.{different-bare}
use Rattle.loom_plan.proofs.SetsWires.{own_wires, in_range, laid_out, is_its, its}
use Rattle.loom_plan.proofs.TreeReorder.{different-no_cycle}
use Rattle.loom_audit.specs.LayoutRule.{AreLaidAtCost, AreSlotsOf, HasPinLines, DoWiresRise, AreOfLayout, AreWiresOfLayouts, HasModules, AreLayoutsTrue}
use Rattle.loom_check.proofs.AgreeingLines.{member_at}
use Rattle.loom_accord.proofs.WiresOfPlan.{lines_are_own, has-is, is-has}

-- ---- lists

permuted : {A : Type 0} {xs ys : List A} → Reordered xs ys → IsPermutation xs ys
permuted nothing = IsPermutation-refl []
permuted (keep {xs = us} {ys = vs} x r) = IsPermutation-cons x us vs (permuted r)
permuted (turn {xs = us} x y) = IsPermutation-middle (x ∷ []) y us
permuted (then {xs = us} {ys = vs} {zs = ws} r s) = IsPermutation-trans us vs ws (permuted r) (permuted s)

-- of two elements in order the first comes before the other
in_order : {X : Type 0} (R : X → X → Type 0) (xs : List X) (i j : ℕ) (x y : X) → AllPairs R xs → i < j → slice_get xs i ≡ Some x
    → slice_get xs j ≡ Some y → R x y
in_order {X} R xs i j x y all less at_x at_y =
    subst (λ (z : X). R x z) (get_or_from_slice_get xs j y x at_y)
    (subst (λ (z : X). R z (get_or xs j x)) (get_or_from_slice_get xs i x x at_x) (all i j x less (slice_get_within xs j y at_y)))

module _ (draft : Draft) (plan : Plan) (passed : draft_check draft ≡ Ok tt) (sound : HasSoundTopologies draft) (is : IsPlanOf draft plan)
    (laws : LowerLaws) where
  laid_at_cost : AreLaidAtCost draft plan
  laid_at_cost i set stands =
      let printed = member_at plan.sets i set stands in
      record {
        laid = laid_out draft plan passed sound is laws set printed;
        cost = set_costs laws draft plan sound is.tables set (in_range draft plan passed sound is laws set printed) (is.laid set printed);
      }

  -- ---- pins

  are_slots : AreSlotsOf draft plan (map slot_of plan.pins)
  are_slots = record {
    order = is.pins.order;
    each = λ slot listed.
        let (line, printed, same) = Contains-from_map slot_of plan.pins slot listed in
        subst (λ (s : Slot). IsSlotOf (topology_of draft) plan.sets s) same (is.pins.only line printed);
    all = λ slot is_slot.
        let (line, printed, same) = is.pins.each slot is_slot in
        subst (λ (s : Slot). Contains (map slot_of plan.pins) s) same (Contains-map slot_of plan.pins line printed);
  }

  has_pin_lines : HasPinLines draft plan
  has_pin_lines = record {
    slots = map slot_of plan.pins;
    are_slots = are_slots;
    lines = record {
      counted = length-map plan.pins slot_of;
      lines = λ i slot line within at_slot at_line.
          same_Some (slot_of line) slot (sym (slice_get-map slot_of plan.pins i line at_line) ∙ at_slot);
    };
  }

  -- ---- wires

  wires_rise : DoWiresRise plan
  wires_rise i w stands before v next at_v =
      in_order IsWireBefore plan.wires before i v w is.wires.order (omega (arith, next)) at_v stands

  module _ (set : SetLine) (printed : Contains plan.sets set) where
    abbrev its_wires : List Wire
    its_wires = filter (is_its draft plan passed sound is laws set printed) plan.wires

    own_tree : FormsTree (set_cavities (cavities_of draft set.net.0) set.mask) (map ends_of (own_wires draft plan set))
    unfolding own_wires
    own_tree =
        laws.forms (net_topology draft set.net.0) set.net.0 (pin_in plan.pins set.net.0) (cavities_of draft set.net.0) set.mask set.layout
        (record {
          laid = laid_out draft plan passed sound is laws set printed;
          different = set_different draft passed sound set.net.0 set.mask (is.sets.each set printed);
          apart = own_pins draft plan is.pins is.sets set printed;
        })

    different : AreDifferent (wires_of_line draft plan set)
    different =
        subst (λ (l : List Wire). AreDifferent l) (sym (lines_are_own draft plan set))
        (different-from_map ends_of (own_wires draft plan set)
        (different-no_cycle (map ends_of (own_wires draft plan set)) own_tree.no_cycle))

    line_has : (l : Wire) → Contains (wires_of_line draft plan set) l → Contains (map bare its_wires) l
    line_has l at =
        let (w, listed, e) = is.wires.all set l printed at in
        let has : Contains (wires_of_line draft plan set) (bare w) = subst (λ (u : Wire). Contains (wires_of_line draft plan set) u) (sym e) at in
        let passes = (its draft plan passed sound is laws set printed w listed).1 (has-is draft plan passed sound is laws set printed w listed has) in
        subst (λ (u : Wire). Contains (map bare its_wires) u) e
        (Contains-map bare its_wires w (Contains-filter (is_its draft plan passed sound is laws set printed) plan.wires w listed passes))

    has_line : (l : Wire) → Contains (map bare its_wires) l → Contains (wires_of_line draft plan set) l
    has_line l at =
        let (w, kept, e) = Contains-from_map bare its_wires l at in
        let (listed, passes) = Contains-from_filter (is_its draft plan passed sound is laws set printed) plan.wires w kept in
        subst (λ (u : Wire). Contains (wires_of_line draft plan set) u) e
        (is-has draft plan passed sound is laws set printed w listed ((its draft plan passed sound is laws set printed w listed).0 passes))

    of_layout : AreOfLayout draft plan set
    of_layout = record {
      wires = its_wires;
      are_its = record {
        is_its = is_its draft plan passed sound is laws set printed;
        its = its draft plan passed sound is laws set printed;
        picked = refl;
      };
      same = permuted
          (reordered-from_members (wires_of_line draft plan set) (map bare its_wires) different
          (different-bare (is_its draft plan passed sound is laws set printed) plan.wires is.wires.order) line_has has_line);
    }

  wires_of_layouts : AreWiresOfLayouts draft plan
  wires_of_layouts i set stands = of_layout set (member_at plan.sets i set stands)

  has_modules : HasModules draft plan
  has_modules = record {
    counted = ap length (sym is.modules);
    lines = λ i stated line within at_stated at_line.
        same_Some stated line (sym at_stated ∙ (ap (λ (l : List Module). slice_get l i) (sym is.modules) ∙ at_line));
  }

  pub layouts_are_true : AreLayoutsTrue draft plan
  layouts_are_true = record {
    laid = laid_at_cost;
    pins = has_pin_lines;
    rise = wires_rise;
    wires = wires_of_layouts;
    modules = has_modules;
  }
