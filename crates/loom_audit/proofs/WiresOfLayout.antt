-- Whether the wires of a set are its layout's.
use Rattle.std.proofs.Common.{◌≡◌, List, map, sym, subst, ◌∙◌}
use Rattle.std.specs.List.{filter}
use Rattle.std.specs.List.Sorted.{IsSorted, IsPermutation}
use Rattle.std.specs.Cmp.{both_ways}
use Rattle.std.proofs.lemmas.List.Sorted.{IsPermutation-sym, IsPermutation-trans}
use Rattle.loom_project.specs.declared.draft.Draft.{Draft}
use Rattle.loom_types.specs.declared.plan.Plan.{Plan}
use Rattle.loom_types.specs.declared.plan.SetLine.{SetLine}
use Rattle.loom_types.specs.declared.wire.Wire.{Wire}
use Rattle.loom_types.specs.LayoutWires.{bare}
use Rattle.loom_types.specs.WireOrder.{wire_cmp}
use Rattle.loom_audit.specs.LayoutRule.{DoWiresRise, AreOfLayout, wires_of_layout}
use Rattle.loom_audit.specs.SetWires.{AreWiresOf}
use Rattle.loom_audit.proofs.UniqueWires.{Rise, rise-filter, rise-bare, rise-of_plan, filter-same, sorted-is}

-- a set has one list of wires
pub one-list : (plan : Plan) (set : SetLine) (wires others : List Wire) → AreWiresOf plan set wires → AreWiresOf plan set others → wires ≡ others
one-list plan set wires others one other =
    one.picked
    ∙ filter-same one.is_its other.is_its plan.wires
    (λ w at.
    both_ways (one.is_its w) (other.is_its w) (λ e. (other.its w at).1 ((one.its w at).0 e)) (λ e. (one.its w at).1 ((other.its w at).0 e)))
    ∙ sym other.picked

module _ (draft : Draft) (plan : Plan) (set : SetLine) (cut its : List Wire) (rises : DoWiresRise plan) (are_its : AreWiresOf plan set its)
    (moved : IsPermutation (wires_of_layout draft plan set) cut) (sorted : IsSorted wire_cmp cut) where
  rising : Rise (map bare its)
  rising =
      subst (λ (ws : List Wire). Rise (map bare ws)) (sym are_its.picked)
      (rise-bare (filter are_its.is_its plan.wires) (rise-filter are_its.is_its plan.wires (rise-of_plan plan rises)))

  pub of_layout : cut ≡ map bare its → AreOfLayout draft plan set
  of_layout same = record {
    wires = its;
    are_its = are_its;
    same = subst (IsPermutation (wires_of_layout draft plan set)) same moved;
  }

  pub from_layout : AreOfLayout draft plan set → cut ≡ map bare its
  from_layout are =
      sorted-is cut (map bare its) sorted
      (IsPermutation-trans cut (wires_of_layout draft plan set) (map bare its) (IsPermutation-sym (wires_of_layout draft plan set) cut moved)
      (subst (λ (ws : List Wire). IsPermutation (wires_of_layout draft plan set) (map bare ws)) (one-list plan set are.wires its are.are_its are_its) are.same))
      rising
