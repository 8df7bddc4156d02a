-- The wires of a printed set: exactly the plan's wires whose conditions hold together with the set's.
use Rattle.std.proofs.Common.{◌≡◌, ℕ, ◌<◌, Bool, true, List, [], ◌∷◌, map, length, Ok, refl, sym, ap, subst, ◌∙◌, arith, Contains, filter, inl, inr}
use Rattle.std.specs.List.{list_any}
use Rattle.loom_base.proofs.Contained.{Contains-map, Contains-from_map, Contains-filter, Contains-from_filter}
use Rattle.loom_formula.specs.RowList.{value_of}
use Rattle.loom_topology.specs.Topology.{TopologyView}
use Rattle.loom_topology.specs.Legal.{chosen}
use Rattle.loom_project.specs.declared.draft.Draft.{Draft}
use Rattle.loom_project.specs.Project.{topology_of, net_topology, cavities_of, HasSoundTopologies}
use Rattle.loom_project.specs.Sound.{draft_check}
use Rattle.loom_types.specs.declared.plan.Plan.{Plan}
use Rattle.loom_types.specs.declared.plan.SetLine.{SetLine}
use Rattle.loom_types.specs.declared.wire.End.{End}
use Rattle.loom_types.specs.declared.wire.Wire.{Wire}
use Rattle.loom_types.specs.Laws.{set_cavities, set_wires, IsCuttable}
use Rattle.loom_types.specs.LayoutTree.{IsLaidOut}
use Rattle.loom_types.specs.LayoutWires.{bare}
use Rattle.loom_types.specs.PinLines.{pin_in}
use Rattle.loom_types.specs.Routes.{IsRouted}
use Rattle.loom_types.specs.WireCost.{wires_cost}
use Rattle.loom_types.specs.WireTree.{ends_of, FormsTree}
use Rattle.loom_active.specs.LiveSets.{IsLiveUnder, IsLiveSet, IsSetBefore}
use Rattle.loom_active.specs.SetWires.{IsWireOf, PicksWiresOf, EachSetFormsTree, LiveWiresAreOfLiveSets}
use Rattle.loom_plan.specs.PlanOf.{IsPlanOf, wires_of_line}
use Rattle.loom_plan.proofs.LowerLaws.{LowerLaws}
use Rattle.loom_plan.proofs.Reorder.{Reordered, map-reordered, reordered-from_members, different-from_map}
use Rattle.loom_plan.proofs.TreeReorder.{different-no_cycle, tree-reordered}
use Rattle.loom_plan.proofs.CostReorder.{cost-reordered, cost-bare}
use Rattle.loom_active.proofs.Openings.{net_differs, set_wires-same}
use Rattle.loom_plan.proofs.PrintedSets.{net_within, stem_and_rest, set_different, set_in_range, set_laid, set_costs}
use Rattle.loom_plan.proofs.Once.{any-member, member-any, same-member}
use Rattle.loom_plan.proofs.PrintedPins.{own_pins}
use Rattle.loom_plan.proofs.SameWires.{is_same_wire, same_wire-true, same_wire-from, different-bare}

ends-bare : (ws : List Wire) → map ends_of (map bare ws) ≡ map ends_of ws
ends-bare [] = refl
ends-bare (w ∷ ws) = ap (λ l. ends_of w ∷ l) (ends-bare ws)

-- the wires of a set's layout over its net's topology
unfoldable pub own_wires : Draft → Plan → SetLine → List Wire
own_wires draft plan set =
    set_wires (net_topology draft set.net.0) set.net.0 (pin_in plan.pins set.net.0) (cavities_of draft set.net.0) set.mask set.layout

lines_are_own : (draft : Draft) (plan : Plan) (set : SetLine) → wires_of_line draft plan set ≡ own_wires draft plan set
unfolding own_wires
lines_are_own draft plan set =
    set_wires-same (topology_of draft) (net_topology draft set.net.0) (net_differs draft set.net.0) set.net.0 (pin_in plan.pins set.net.0)
    (cavities_of draft set.net.0) set.mask set.layout

module _ (draft : Draft) (plan : Plan) (passed : draft_check draft ≡ Ok tt) (sound : HasSoundTopologies draft) (is : IsPlanOf draft plan) where
  -- the set whose layout has a wire, where its condition holds
  pub record HasLiveWire (choice : ℕ → Bool) (w : Wire) : Type 0 where
    pub set : SetLine
    pub printed : Contains plan.sets set
    pub has : Contains (own_wires draft plan set) (bare w)
    pub holds : value_of plan.rows choice set.row ≡ true

  to_own : (set : SetLine) (w : Wire) → Contains (wires_of_line draft plan set) w → Contains (own_wires draft plan set) w
  to_own set w at = subst (λ (l : List Wire). Contains l w) (lines_are_own draft plan set) at

  from_own : (set : SetLine) (w : Wire) → Contains (own_wires draft plan set) w → Contains (wires_of_line draft plan set) w
  from_own set w at = subst (λ (l : List Wire). Contains l w) (sym (lines_are_own draft plan set)) at

  pub wire_of_set : (w : Wire) → Contains plan.wires w → (set : SetLine) × Contains plan.sets set × Contains (own_wires draft plan set) (bare w)
  wire_of_set w at = let (set, printed, has) = is.wires.each w at in (set, printed, to_own set (bare w) has)

  pub printed_wire : (set : SetLine) (l : Wire) → Contains plan.sets set → Contains (own_wires draft plan set) l
      → (w : Wire) × Contains plan.wires w × (bare w ≡ l)
  printed_wire set l printed at = is.wires.all set l printed (from_own set l at)

  pub live_wire_set : (choice : ℕ → Bool) (w : Wire) → Contains plan.wires w → value_of plan.rows choice w.row ≡ true → HasLiveWire choice w
  live_wire_set choice w at holds =
      let (set, printed, has, live) = (is.wires.condition w at choice).0 holds in
      record { set = set; printed = printed; has = to_own set (bare w) has; holds = live }

  pub set_wire_live : (choice : ℕ → Bool) (w : Wire) → Contains plan.wires w → HasLiveWire choice w → value_of plan.rows choice w.row ≡ true
  set_wire_live choice w at of =
      (is.wires.condition w at choice).1 (of.set, of.printed, from_own of.set (bare w) of.has, of.holds)

  -- of two sets of one net that are live together none comes before the other
  pub not_together : (choice : ℕ → Bool) (a b : SetLine) → Contains plan.sets a → Contains plan.sets b → value_of plan.rows choice a.row ≡ true
      → value_of plan.rows choice b.row ≡ true → a.net.0 ≡ b.net.0 → IsSetBefore a b → ⊥
  not_together choice a b in_a in_b holds_a holds_b net before =
      let live_a = (is.sets.condition a in_a choice).0 holds_a in
      let live_b = (is.sets.condition b in_b choice).0 holds_b in
      let other_net : IsLiveUnder draft choice a.net.0 b.mask = subst (λ (n : ℕ). IsLiveUnder draft choice n b.mask) (sym net) live_b in
      let mask : a.mask ≡ b.mask = sym live_a.needs ∙ other_net.needs in
      elim before [ inl less ↦ omega (arith, less, net) | inr (e, less) ↦ omega (arith, less, mask) ]

  same_set : (choice : ℕ → Bool) (a b : SetLine) → Contains plan.sets a → Contains plan.sets b → value_of plan.rows choice a.row ≡ true
      → value_of plan.rows choice b.row ≡ true → a.net.0 ≡ b.net.0 → a ≡ b
  same_set choice a b in_a in_b holds_a holds_b net =
      same-member IsSetBefore plan.sets is.sets.order a b in_a in_b (not_together choice a b in_a in_b holds_a holds_b net)
      (not_together choice b a in_b in_a holds_b holds_a (sym net))

  module _ (laws : LowerLaws) (set : SetLine) (printed : Contains plan.sets set) where
    abbrev topology : TopologyView
    topology = net_topology draft set.net.0

    abbrev terminals : List ℕ
    terminals = cavities_of draft set.net.0

    live_somewhere : IsLiveSet draft set.net.0 set.mask
    live_somewhere = is.sets.each set printed

    pub in_range : set.net.0 < length draft.nets
    in_range = net_within draft passed sound set.net.0 set.mask live_somewhere

    pub laid_out : IsLaidOut topology terminals set.mask set.layout
    laid_out = set_laid laws draft plan sound is.tables set in_range (is.laid set printed)

    cuttable : IsCuttable topology (pin_in plan.pins set.net.0) terminals set.mask set.layout
    cuttable = record {
      laid = laid_out;
      different = set_different draft passed sound set.net.0 set.mask live_somewhere;
      apart = own_pins draft plan is.pins is.sets set printed;
    }

    pub own_routed : (l : Wire) → Contains (own_wires draft plan set) l → IsRouted topology l × (l.net.0 ≡ set.net.0)
    unfolding own_wires
    own_routed l at =
        laws.routes topology set.net.0 (pin_in plan.pins set.net.0) terminals set.mask set.layout (sound.each set.net.0)
        (set_in_range draft passed sound set.net.0 set.mask live_somewhere) laid_out l at

  module _ (laws : LowerLaws) (set : SetLine) (printed : Contains plan.sets set) where
    -- the test for the set's wires
    pub is_its : Wire → Bool
    is_its w = list_any (is_same_wire w) (own_wires draft plan set)

    its-has : (w : Wire) → is_its w ≡ true → Contains (own_wires draft plan set) (bare w)
    unfolding is_its
    its-has w h =
        let (l, at, same) = any-member (is_same_wire w) (own_wires draft plan set) h in
        let (v, listed, e) = printed_wire set l printed at in
        let rowless : bare l ≡ l = ap bare (sym e) ∙ e in
        subst (λ (u : Wire). Contains (own_wires draft plan set) u) (sym (same_wire-true w l same ∙ rowless)) at

    has-its : (w : Wire) → Contains (own_wires draft plan set) (bare w) → is_its w ≡ true
    unfolding is_its
    has-its w at = member-any (is_same_wire w) (own_wires draft plan set) (bare w) at (same_wire-from w (bare w) refl)

    has-is_of : (w : Wire) → Contains plan.wires w → Contains (own_wires draft plan set) (bare w) → IsWireOf plan set w
    has-is_of w listed at =
        let (choice, live) = is.sets.each set printed in
        let holds = (is.sets.condition set printed choice).1 live in (
          (own_routed laws set printed (bare w) at).1,
          (choice, set_wire_live choice w listed (record { set = set; printed = printed; has = at; holds = holds }), holds),
        )

    found_has : (choice : ℕ → Bool) (w : Wire) → w.net.0 ≡ set.net.0 → HasLiveWire choice w → value_of plan.rows choice set.row ≡ true
        → Contains (own_wires draft plan set) (bare w)
    found_has choice w net found holds =
        let own_net : w.net.0 ≡ found.set.net.0 = (own_routed laws found.set found.printed (bare w) found.has).1 in
        let same : found.set ≡ set = same_set choice found.set set found.printed printed found.holds holds (sym own_net ∙ net) in
        subst (λ (s : SetLine). Contains (own_wires draft plan s) (bare w)) same found.has

    is_of-has : (w : Wire) → Contains plan.wires w → IsWireOf plan set w → Contains (own_wires draft plan set) (bare w)
    is_of-has w listed of =
        let (choice, holds, set_holds) = of.1 in
        found_has choice w of.0 (live_wire_set choice w listed holds) set_holds

    pub its : PicksWiresOf plan set is_its
    its w listed = (λ h. has-is_of w listed (its-has w h), λ of. has-its w (is_of-has w listed of))

    own_tree : FormsTree (set_cavities (cavities_of draft set.net.0) set.mask) (map ends_of (own_wires draft plan set))
    unfolding own_wires
    own_tree =
        laws.forms (net_topology draft set.net.0) set.net.0 (pin_in plan.pins set.net.0) (cavities_of draft set.net.0) set.mask set.layout
        (cuttable laws set printed)

    in_order : Reordered (own_wires draft plan set) (map bare (filter is_its plan.wires))
    in_order =
        reordered-from_members (own_wires draft plan set) (map bare (filter is_its plan.wires))
        (different-from_map ends_of (own_wires draft plan set) (different-no_cycle (map ends_of (own_wires draft plan set)) own_tree.no_cycle))
        (different-bare is_its plan.wires is.wires.order)
        (λ l at.
        let (w, listed, e) = printed_wire set l printed at in
        let passes : is_its w ≡ true = has-its w (subst (λ (u : Wire). Contains (own_wires draft plan set) u) (sym e) at) in
        subst (λ (u : Wire). Contains (map bare (filter is_its plan.wires)) u) e
        (Contains-map bare (filter is_its plan.wires) w (Contains-filter is_its plan.wires w listed passes)))
        (λ l at.
        let (w, kept, e) = Contains-from_map bare (filter is_its plan.wires) l at in
        subst (λ (u : Wire). Contains (own_wires draft plan set) u) e (its-has w (Contains-from_filter is_its plan.wires w kept).1))

    pub its_tree : FormsTree (chosen (cavities_of draft set.net.0) set.mask) (map ends_of (filter is_its plan.wires))
    its_tree =
        let cavities : List ℕ = set_cavities (cavities_of draft set.net.0) set.mask in
        subst (λ (cs : List ℕ). FormsTree cs (map ends_of (filter is_its plan.wires)))
        (sym (stem_and_rest draft passed sound set.net.0 set.mask (is.sets.each set printed)))
        (subst (λ (ws : List (End × End)). FormsTree cavities ws) (ends-bare (filter is_its plan.wires))
        (tree-reordered (map-reordered ends_of in_order) cavities own_tree))

    -- they cost what is printed
    pub its_cost : wires_cost (net_topology draft set.net.0) (filter is_its plan.wires) ≡ set.cost
    unfolding own_wires
    its_cost =
        sym (cost-bare (net_topology draft set.net.0) (filter is_its plan.wires))
        ∙ (sym (cost-reordered (net_topology draft set.net.0) in_order)
        ∙ (laws.costs (net_topology draft set.net.0) set.net.0 (pin_in plan.pins set.net.0) (cavities_of draft set.net.0) set.mask set.layout
        (cuttable laws set printed)
        ∙ set_costs laws draft plan sound is.tables set (in_range laws set printed) (is.laid set printed)))

  -- a wire is live exactly where it is one of a set whose row holds
  pub live_wires_are_of_live_sets : LowerLaws → LiveWiresAreOfLiveSets draft plan
  live_wires_are_of_live_sets laws choice valid w listed = (
    λ holds.
        let found = live_wire_set choice w listed holds in record {
          set = found.set;
          printed = found.printed;
          live = found.holds;
          has = has-is_of laws found.set found.printed w listed found.has;
        },
    λ of. set_wire_live choice w listed (record {
      set = of.set;
      printed = of.printed;
      has = is_of-has laws of.set of.printed w listed of.has;
      holds = of.live;
    }),
  )

  -- the wires of each set form a tree
  pub each_set_forms_tree : LowerLaws → EachSetFormsTree draft plan
  each_set_forms_tree laws set printed = record {
    is_its = is_its laws set printed;
    its = its laws set printed;
    tree = its_tree laws set printed;
  }
