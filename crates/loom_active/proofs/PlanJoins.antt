-- From the sets of a plan and their wires to the live wires of nets under a choice.
use Rattle.std.proofs.Common.{◌≡◌, ◌↔◌, inl, inr, ℕ, Bool, true, false, cond, ◌==◌, List, [], ◌∷◌, length, map, refl, sym, ap, subst, ◌∙◌, arith, IsTrue, Contains, filter}
use Rattle.std.proofs.lemmas.Bool.{cases_Bool, eq-eqb, eqb-true, false≢true, false_from_ne_true}
use Rattle.loom_base.proofs.Contained.{Contains-here, Contains-cons, Contains-from_filter}
use Rattle.loom_formula.specs.RowList.{value_of}
use Rattle.loom_topology.specs.Legal.{chosen}
use Rattle.loom_project.specs.declared.draft.Draft.{Draft}
use Rattle.loom_project.specs.Project.{cavities_of}
use Rattle.loom_types.specs.declared.wire.Wire.{Wire}
use Rattle.loom_types.specs.declared.plan.Plan.{Plan}
use Rattle.loom_types.specs.declared.plan.SetLine.{SetLine}
use Rattle.loom_types.specs.WireTree.{ends_of, FormsTree}
use Rattle.loom_active.specs.Needs.{need_of}
use Rattle.loom_active.specs.Clash.{HasNoClash}
use Rattle.loom_active.specs.LiveSets.{need_mask, IsLiveUnder, PrintsLiveSets}
use Rattle.loom_active.specs.RightPlan.{live_wires, live_wires_of, JoinsWhatNetsNeed, IdleNetsHaveNoWires}
use Rattle.loom_active.specs.SetWires.{EachSetFormsTree, LiveWiresAreOfLiveSets, PinsKeepToNets}
use Rattle.loom_active.specs.JoinsLaw.{NetsHaveWiresOfLiveSets, EachNetFormsTree, PlansGiveNetsTheirWires, PlansLeaveIdleNetsBare, PlansFormTrees, PlansJoinNeeds}
use Rattle.loom_active.proofs.NeedMasks.{need-chosen}
use Rattle.loom_active.proofs.TreesJoin.{trees_join_needs}

-- two filters, one after the other, are one whose test says what both say
filter_both : {X : Type 0} (p q r : X → Bool) (xs : List X)
    → ((x : X) → Contains xs x → ((p x ≡ true) × (q x ≡ true)) ↔ (r x ≡ true)) → filter q (filter p xs) ≡ filter r xs
filter_both p q r [] same = refl
filter_both {X} p q r (x ∷ xs) same =
    let rest = filter_both p q r xs (λ y listed. same y (Contains-cons y x xs listed)) in
    let at = same x (Contains-here x xs) in
    elim (cases_Bool (r x)) [
      | inl holding ↦
          ap (λ (b : Bool). filter q (cond b (x ∷ filter p xs) (filter p xs))) (at.1 holding).0
          ∙ ap (λ (b : Bool). cond b (x ∷ filter q (filter p xs)) (filter q (filter p xs))) (at.1 holding).1
          ∙ ap (λ (l : List X). x ∷ l) rest
          ∙ sym (ap (λ (b : Bool). cond b (x ∷ filter r xs) (filter r xs)) holding)
      | inr lacking ↦ elim (cases_Bool (p x)) [
        | inl passes ↦
            let stops : q x ≡ false = false_from_ne_true (q x) (λ further. false≢true (sym lacking ∙ at.0 (passes, further))) in
            ap (λ (b : Bool). filter q (cond b (x ∷ filter p xs) (filter p xs))) passes
            ∙ ap (λ (b : Bool). cond b (x ∷ filter q (filter p xs)) (filter q (filter p xs))) stops
            ∙ rest
            ∙ sym (ap (λ (b : Bool). cond b (x ∷ filter r xs) (filter r xs)) lacking)
        | inr stops ↦
            ap (λ (b : Bool). filter q (cond b (x ∷ filter p xs) (filter p xs))) stops
            ∙ rest
            ∙ sym (ap (λ (b : Bool). cond b (x ∷ filter r xs) (filter r xs)) lacking)
      ]
    ]

-- a list without members is empty
none_listed : {X : Type 0} (xs : List X) → ((x : X) → Contains xs x → ⊥) → xs ≡ []
none_listed [] none = refl
none_listed (x ∷ xs) none = absurd (none x (Contains-here x xs))

-- a live wire is one of the plan's, and its row holds
live_listed : (plan : Plan) (choice : ℕ → Bool) (w : Wire) → Contains (live_wires plan choice) w → Contains plan.wires w × IsTrue (value_of plan.rows choice w.row)
live_listed plan choice w at = Contains-from_filter (λ (v : Wire). value_of plan.rows choice v.row) plan.wires w at

module _ (draft : Draft) (plan : Plan) (prints : PrintsLiveSets draft plan) (wires : LiveWiresAreOfLiveSets draft plan) where
  sets_wires : NetsHaveWiresOfLiveSets draft plan
  sets_wires choice set printed live is_its its =
      filter_both (λ (w : Wire). value_of plan.rows choice w.row) (λ (w : Wire). w.net.0 == set.net.0) is_its plan.wires
      (λ w listed. (
        λ (holds, of_net). (its w listed).1 (eqb-true w.net.0 set.net.0 of_net, (choice, holds, (prints.condition set printed choice).1 live)),
        λ is.
            let own = (its w listed).0 is in (
              (wires choice live.valid w listed).1
                  (record { set = set; printed = printed; live = (prints.condition set printed choice).1 live; has = own }),
              eq-eqb w.net.0 set.net.0 own.0,
            ),
      ))

  idle_bare : IdleNetsHaveNoWires draft plan
  idle_bare choice valid net few =
      none_listed (live_wires_of plan choice net) (λ w at.
      let (in_live, of_net) = Contains-from_filter (λ (v : Wire). v.net.0 == net) (live_wires plan choice) w at in
      let (listed, holds) = live_listed plan choice w in_live in
      let of_set = (wires choice valid w listed).0 holds in
      let live = (prints.condition of_set.set of_set.printed choice).0 of_set.live in
      let same : of_set.set.net.0 ≡ net = sym of_set.has.0 ∙ eqb-true w.net.0 net of_net in
      absurd (omega (arith, live.some, ap (λ (n : ℕ). length (need_of draft choice n)) same, few)))

  module _ (trees : EachSetFormsTree draft plan) where
    set_tree : (choice : ℕ → Bool) (set : SetLine) → Contains plan.sets set → IsLiveUnder draft choice set.net.0 set.mask
        → FormsTree (need_of draft choice set.net.0) (map ends_of (live_wires_of plan choice set.net.0))
    set_tree choice set printed live =
        let its = trees set printed in
        let leaves : chosen (cavities_of draft set.net.0) set.mask ≡ need_of draft choice set.net.0 =
        ap (chosen (cavities_of draft set.net.0)) (sym live.needs) ∙ need-chosen draft choice set.net.0 in
        let same = sets_wires choice set printed live its.is_its its.its in
        subst (λ (l : List Wire). FormsTree (need_of draft choice set.net.0) (map ends_of l)) (sym same)
        (subst (λ (cs : List ℕ). FormsTree cs (map ends_of (filter its.is_its plan.wires))) leaves its.tree)

    net_trees : EachNetFormsTree draft plan
    net_trees choice valid net two =
        let live : IsLiveUnder draft choice net (need_mask draft choice net) = record { valid = valid; needs = refl; some = two } in
        let (set, printed, of_net, of_mask) = prints.all net (need_mask draft choice net) (choice, live) in
        let set_live : IsLiveUnder draft choice set.net.0 set.mask =
        subst (λ (m : ℕ). IsLiveUnder draft choice set.net.0 m) (sym of_mask)
        (subst (λ (n : ℕ). IsLiveUnder draft choice n (need_mask draft choice net)) (sym of_net) live) in
        subst (λ (n : ℕ). FormsTree (need_of draft choice n) (map ends_of (live_wires_of plan choice n))) of_net (set_tree choice set printed set_live)

    joins : HasNoClash draft → PinsKeepToNets plan → JoinsWhatNetsNeed draft plan
    joins clear pins choice valid =
        trees_join_needs (need_of draft choice) (live_wires plan choice)
        (λ c m n less in_m in_n. clear c m n choice (record { valid = valid; different = less; in_first = in_m; in_second = in_n }))
        (λ net few. idle_bare choice valid net few)
        (λ net two. net_trees choice valid net two)
        (λ w v at_w at_v coupler pin ends_w ends_v.
        let (listed_w, holds_w) = live_listed plan choice w at_w in
        let (listed_v, holds_v) = live_listed plan choice v at_v in
        pins w v listed_w listed_v (choice, holds_w, holds_v) coupler pin ends_w ends_v)

pub plans_give_nets_their_wires : PlansGiveNetsTheirWires
plans_give_nets_their_wires draft plan prints wires = sets_wires draft plan prints wires

pub plans_leave_idle_nets_bare : PlansLeaveIdleNetsBare
plans_leave_idle_nets_bare draft plan prints wires = idle_bare draft plan prints wires

pub plans_form_trees : PlansFormTrees
plans_form_trees draft plan prints wires trees = net_trees draft plan prints wires trees

pub plans_join_needs : PlansJoinNeeds
plans_join_needs draft plan clear prints wires trees pins = joins draft plan prints wires trees clear pins
