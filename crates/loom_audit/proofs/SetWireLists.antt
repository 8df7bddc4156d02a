-- The wires of a set are one list, however they are picked.
use Rattle.std.proofs.Common.{ℕ, List, [], ◌∷◌, ◌≡◌, Bool, cond, map, Some, refl, sym, ap, ◌∙◌, subst}
use Rattle.std.specs.Prelude.{◌↔◌}
use Rattle.std.specs.List.{Contains, filter, slice_get}
use Rattle.std.proofs.lemmas.Option.{slice_get_within, get_or_from_slice_get}
use Rattle.loom_base.proofs.Contained.{Contains-here, Contains-cons}
use Rattle.loom_topology.specs.Legal.{chosen}
use Rattle.loom_project.specs.declared.draft.Draft.{Draft}
use Rattle.loom_project.specs.Project.{cavities_of}
use Rattle.loom_types.specs.declared.plan.Plan.{Plan}
use Rattle.loom_types.specs.declared.plan.SetLine.{SetLine}
use Rattle.loom_types.specs.declared.wire.Wire.{Wire}
use Rattle.loom_types.specs.WireTree.{ends_of, FormsTree}
use Rattle.loom_active.specs.SetWires.{SetFormsTree}
use Rattle.loom_audit.specs.SetWires.{AreWiresOf}
use Rattle.loom_audit.proofs.KeyLemmas.{same_bools}

pub filters_agree : {X : Type 0} (p q : X → Bool) (xs : List X) → ((x : X) → Contains xs x → p x ≡ q x) → filter p xs ≡ filter q xs
filters_agree p q [] agree = refl
filters_agree p q (x ∷ xs) agree =
    let rest = filters_agree p q xs (λ y listed. agree y (Contains-cons y x xs listed)) in
    λ i. cond (agree x (Contains-here x xs) i) (x ∷ rest i) (rest i)

pub same_wires : (plan : Plan) (set : SetLine) (ws vs : List Wire) → AreWiresOf plan set ws → AreWiresOf plan set vs → ws ≡ vs
same_wires plan set ws vs one other =
    one.picked
    ∙ (filters_agree one.is_its other.is_its plan.wires (λ w listed.
    same_bools (one.is_its w) (other.is_its w)
    (λ holds. (other.its w listed).1 ((one.its w listed).0 holds))
    (λ holds. (one.its w listed).1 ((other.its w listed).0 holds)))
    ∙ sym other.picked)

pub set_tree_from : (draft : Draft) (plan : Plan) (set : SetLine) (ws : List Wire) → AreWiresOf plan set ws
    → FormsTree (chosen (cavities_of draft set.net.0) set.mask) (map ends_of ws) → SetFormsTree draft plan set
set_tree_from draft plan set ws are tree =
    record {
      is_its = are.is_its;
      its = are.its;
      tree = subst (λ (l : List Wire). FormsTree (chosen (cavities_of draft set.net.0) set.mask) (map ends_of l)) are.picked tree;
    }

pub tree_of_set : (draft : Draft) (plan : Plan) (set : SetLine) (ws : List Wire) → AreWiresOf plan set ws → SetFormsTree draft plan set
    → FormsTree (chosen (cavities_of draft set.net.0) set.mask) (map ends_of ws)
tree_of_set draft plan set ws are forms =
    subst (λ (l : List Wire). FormsTree (chosen (cavities_of draft set.net.0) set.mask) (map ends_of l))
    (same_wires plan set (filter forms.is_its plan.wires) ws (record { is_its = forms.is_its; its = forms.its; picked = refl }) are) forms.tree

pub listed_at : {X : Type 0} (xs : List X) (i : ℕ) (x : X) → slice_get xs i ≡ Some x → Contains xs x
listed_at xs i x at = (i, slice_get_within xs i x at, get_or_from_slice_get xs i x x at)
