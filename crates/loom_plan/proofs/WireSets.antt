-- The laid sets as they are cut into wires: they are laid over the project's topology, and have the wires and the conditions of the live sets.
use Rattle.std.proofs.Common.{◌≡◌, ℕ, ◌<◌, Bool, true, false, cond, List, [], ◌∷◌, length, map, filter, drop, get_or, slice_index, Option, IsSome, Ok, refl, sym, ap, ap₂, subst, ◌∙◌, arith, Contains}
use Rattle.std.specs.List.{All, list_any, flat_map}
use Rattle.std.proofs.lemmas.List.{length-map, get_or-map}
use Rattle.std.proofs.lemmas.List.Elements.{All-contains}
use Rattle.loom_base.specs.declared.positions.CavityNo.{CavityNo}
use Rattle.loom_base.specs.declared.positions.SegmentNo.{SegmentNo}
use Rattle.loom_base.proofs.Contained.{Contains-here, Contains-cons, Contains-map, Contains-from_map}
use Rattle.loom_topology.specs.Topology.{TopologyView, node_of}
use Rattle.loom_topology.specs.WiringTree.{Step, no_step, step_at, IsWiringTree}
use Rattle.loom_topology.specs.Table.{cell_at}
use Rattle.loom_topology.specs.Legal.{chosen, cavities_of_mask}
use Rattle.loom_project.specs.declared.draft.Draft.{Draft}
use Rattle.loom_project.specs.Project.{topology_of, net_topology, cavities_of, HasSoundTopologies}
use Rattle.loom_project.specs.Sound.{draft_check}
use Rattle.loom_project.proofs.PartsLemmas.{count_net_segments}
use Rattle.loom_rows.specs.Condition.{Meaning, value}
use Rattle.loom_rows.specs.Table.{Table, Has}
use Rattle.loom_rows.specs.Disjunction.{any_worked}
use Rattle.loom_rows.proofs.Conditions.{same}
use Rattle.loom_types.specs.declared.plan.PinLine.{PinLine}
use Rattle.loom_types.specs.declared.wire.Wire.{Wire}
use Rattle.loom_types.specs.LayoutTree.{step_of, tree_of, IsLaidOut}
use Rattle.loom_types.specs.LayoutWires.{layout_wires}
use Rattle.loom_types.specs.Laws.{set_cavities, LayoutWiresAreRouted}
use Rattle.loom_types.specs.PinLines.{pin_in}
use Rattle.loom_types.specs.Routes.{IsEndInRange}
use Rattle.loom_types.specs.SetMask.{rest_of, stem_cavity, stem_node}
use Rattle.loom_steiner.specs.LeastTable.{IsLeastTable}
use Rattle.loom_layout.proofs.Sets as sets
use Rattle.loom_active.proofs.SetLemmas.{live-in_range}
use Rattle.loom_laid.specs.declared.laid_set.LaidSet.{LaidSet}
use Rattle.loom_laid.specs.declared.laid_set.Laid.{Laid}
use Rattle.loom_laid.specs.LaidSets.{IsLaid, IsNetTable}
use Rattle.loom_wires.specs.declared.cut_wire.CutWire.{CutWire}
use Rattle.loom_wires.specs.declared.laid_set.LaidSet.{LaidSet as WireSet}
use Rattle.loom_wires.specs.Wires.{numbers_of, first_of, others_of, IsLaid as IsLaidForWires, wires_of_set, is_same_wire, has_wire, users_of, wires_worked as worked_for_sets, AreWires, bare_of}
use Rattle.loom_plan.specs.Work.{set_live, wires_of_layout, users_of_wire, wires_worked, AreWiresOf}
use Rattle.loom_plan.specs.Stages.{HasLaid, wired_of, cavity_no}
use Rattle.loom_active.proofs.Openings.{net_differs}
use Rattle.loom_plan.proofs.PrintedSets.{stem_and_rest, set_in_range}
use Rattle.loom_active.proofs.OpenTrees.{open-within, laid_out-in_project}
use Rattle.loom_plan.proofs.Zipped.{All-members}

numbers-back : (cs : List ℕ) → map (λ (c : CavityNo). c.0) (map cavity_no cs) ≡ cs
numbers-back [] = refl
numbers-back (c ∷ cs) = ap (λ l. c ∷ l) (numbers-back cs)

same_test : (f : WireSet → Meaning) (g : LaidSet → Meaning) (b c : Bool) (x : WireSet) (s : LaidSet) (xs : List WireSet) (ss : List LaidSet) → b ≡ c → f x ≡ g s
    → map f xs ≡ map g ss → map f (cond b (x ∷ xs) xs) ≡ map g (cond c (s ∷ ss) ss)
same_test f g true true x s xs ss e first rest = λ i. first i ∷ rest i
same_test f g true false x s xs ss e first rest = absurd (cc)
same_test f g false true x s xs ss e first rest = absurd (cc)
same_test f g false false x s xs ss e first rest = rest

module _ (draft : Draft) (sound : HasSoundTopologies draft) (t : Table) (laid : Laid) (has : HasLaid draft t laid) where
  pub net_within : (set : LaidSet) → Contains laid.sets set → set.net.0 < length draft.nets
  net_within set at = live-in_range draft set.net.0 set.mask (has.live.each set at)

  pub nets_within : All (λ set. set.net.0 < length draft.nets) laid.sets
  nets_within = All-members (λ (set : LaidSet). set.net.0 < length draft.nets) laid.sets net_within

  pub all_had : All (λ set. Has t set.cond) laid.sets
  all_had = All-members (λ (set : LaidSet). Has t set.cond) laid.sets has.live.has

  -- each set is laid out over its net's topology
  pub set_out : (set : LaidSet) → Contains laid.sets set → IsLaidOut (net_topology draft set.net.0) (cavities_of draft set.net.0) set.mask set.layout
  set_out set at =
      let topology : TopologyView = net_topology draft set.net.0 in
      let terminals : List ℕ = cavities_of draft set.net.0 in
      let is : IsLaid draft laid.tables set = All-contains (IsLaid draft laid.tables) laid.sets set has.each at in
      let made : IsNetTable draft is.line = All-contains (IsNetTable draft) laid.tables is.line has.tables.each is.has in
      let least : IsLeastTable topology terminals is.line.table =
      subst (λ (n : ℕ). IsLeastTable (net_topology draft n) (cavities_of draft n) is.line.table) is.of_net made.least in
      let some : IsSome (cell_at is.line.table (rest_of set.mask) (stem_node topology terminals set.mask)) =
      subst (λ (o : Option ℕ). IsSome o) (sym is.cost) refl in
      sets.laid_out topology terminals (cell_at is.line.table) set.mask set.layout (sound.each set.net.0)
      (sound.terminals set.net.0 (net_within set at)) least.least some is.layout

  -- its steps go over segments of the project
  pub steps_within : (set : LaidSet) → Contains laid.sets set → All (λ step. step.1.0 < length draft.segments) set.layout.steps
  steps_within set at k d lt =
      let topology : TopologyView = net_topology draft set.net.0 in
      let steps : List (ℕ × SegmentNo) = set.layout.steps in
      let here : step_at (tree_of set.layout) k ≡ step_of (get_or steps k d) = get_or-map step_of steps k d no_step lt in
      let within : (step_at (tree_of set.layout) k).segment < length topology.segments =
      open-within topology (step_at (tree_of set.layout) k).segment
      ((set_out set at).tree.is_open k (omega (arith, lt, length-map steps step_of))) in
      subst (λ (n : ℕ). n < length draft.segments) (ap (λ (s : Step). s.segment) here)
      (omega (arith, within, count_net_segments draft set.net.0))

  pub segments_within : All (λ set. All (λ step. step.1.0 < length draft.segments) set.layout.steps) laid.sets
  segments_within = All-members (λ (set : LaidSet). All (λ step. step.1.0 < length draft.segments) set.layout.steps) laid.sets steps_within

  module _ (passed : draft_check draft ≡ Ok tt) where
    module _ (set : LaidSet) (at : Contains laid.sets set) where
      abbrev terminals : List ℕ
      terminals = cavities_of draft set.net.0

      numbers_are : numbers_of (wired_of draft set) ≡ set_cavities terminals set.mask
      numbers_are =
          numbers-back (chosen terminals set.mask) ∙ stem_and_rest draft passed sound set.net.0 set.mask (has.live.each set at)

      first_is : first_of (wired_of draft set) ≡ stem_cavity terminals set.mask
      first_is = ap (λ (l : List ℕ). slice_index l 0) numbers_are

      others_are : others_of (wired_of draft set) ≡ cavities_of_mask terminals (rest_of set.mask)
      others_are = ap (λ (l : List ℕ). drop 1 l) numbers_are

      cavities_within : All (λ c. c < length (topology_of draft).cavities) (set_cavities terminals set.mask)
      cavities_within =
          subst (λ (cs : List ℕ). All (λ c. c < length cs) (set_cavities terminals set.mask)) (sym (net_differs draft set.net.0).cavities)
          (set_in_range draft passed sound set.net.0 set.mask (has.live.each set at))

      out : IsLaidOut (topology_of draft) terminals set.mask set.layout
      out = laid_out-in_project draft set.net.0 terminals set.mask set.layout (set_out set at)

      pub wired_is_laid : IsLaidForWires (topology_of draft) (wired_of draft set)
      wired_is_laid = record {
        some =
            omega (arith, ap length numbers_are, length-map (map cavity_no (chosen terminals set.mask)) (λ (c : CavityNo). c.0));
        in_range = subst (All (λ c. c < length (topology_of draft).cavities)) (sym numbers_are) cavities_within;
        tree =
            subst (λ (l : List ℕ). IsWiringTree (topology_of draft) l (node_of (topology_of draft) (first_of (wired_of draft set))) (tree_of set.layout)) (sym others_are)
            (subst (λ (c : ℕ). IsWiringTree (topology_of draft) (cavities_of_mask terminals (rest_of set.mask)) (node_of (topology_of draft) c) (tree_of set.layout))
            (sym first_is) out.tree);
        degrees = out.degrees;
      }

      -- it has the wires of the layout
      pub wires_alike : (lines : List PinLine) → wires_of_set (topology_of draft) lines (wired_of draft set) ≡ wires_of_layout draft lines set
      wires_alike lines =
          ap₂ (λ (first : ℕ) (others : List ℕ). layout_wires (topology_of draft) set.net.0 (pin_in lines set.net.0) first others set.layout)
          first_is others_are

    pub all_wired_laid : All (IsLaidForWires (topology_of draft)) (map (wired_of draft) laid.sets)
    all_wired_laid = All-members (IsLaidForWires (topology_of draft)) (map (wired_of draft) laid.sets) (λ x at.
        let (set, in_set, e) = Contains-from_map (wired_of draft) laid.sets x at in
        subst (IsLaidForWires (topology_of draft)) e (wired_is_laid set in_set))

    pub all_wired_had : All (λ set. Has t set.cond) (map (wired_of draft) laid.sets)
    all_wired_had = All-members (λ (x : WireSet). Has t x.cond) (map (wired_of draft) laid.sets) (λ x at.
        let (set, in_set, e) = Contains-from_map (wired_of draft) laid.sets x at in
        subst (λ (y : WireSet). Has t y.cond) e (has.live.has set in_set))

    module _ (lines : List PinLine) where
      users_same : (w : Wire) (some : List LaidSet) → ((set : LaidSet) → Contains some set → Contains laid.sets set)
          → map (λ (x : WireSet). value x.cond) (filter (has_wire (topology_of draft) lines w) (map (wired_of draft) some))
          ≡ map (set_live draft) (filter (λ set. list_any (is_same_wire w) (wires_of_layout draft lines set)) some)
      users_same w [] among = refl
      users_same w (set ∷ some) among =
          same_test (λ (x : WireSet). value x.cond) (set_live draft) (has_wire (topology_of draft) lines w (wired_of draft set))
          (list_any (is_same_wire w) (wires_of_layout draft lines set)) (wired_of draft set) set
          (filter (has_wire (topology_of draft) lines w) (map (wired_of draft) some))
          (filter (λ s. list_any (is_same_wire w) (wires_of_layout draft lines s)) some)
          (ap (list_any (is_same_wire w)) (wires_alike set (among set (Contains-here set some)) lines))
          (same (has.live.condition set (among set (Contains-here set some))))
          (users_same w some (λ s at. among s (Contains-cons s set some at)))

      -- the sets that have a wire are live where the live sets are
      pub users_alike : (w : Wire) → users_of (topology_of draft) lines (map (wired_of draft) laid.sets) w ≡ users_of_wire draft lines laid.sets w
      users_alike w = users_same w laid.sets (λ set at. at)

      pub worked_alike : (wires : List Wire)
          → worked_for_sets (topology_of draft) lines (map (wired_of draft) laid.sets) wires ≡ wires_worked draft lines laid.sets wires
      worked_alike wires = λ i. flat_map (λ w. any_worked (users_alike w i)) wires

      -- they have the wires of the layouts
      pub wires_of_sets : (wires : List Wire) → AreWires (topology_of draft) lines (map (wired_of draft) laid.sets) wires → AreWiresOf draft lines laid.sets wires
      wires_of_sets wires are = record {
        order = are.order;
        each = λ w at.
            let (x, in_x, has_w) = are.each w at in
            let (set, in_set, e) = Contains-from_map (wired_of draft) laid.sets x in_x in (
              set,
              in_set,
              subst (λ (l : List Wire). Contains l w) (wires_alike set in_set lines)
                  (subst (λ (y : WireSet). Contains (wires_of_set (topology_of draft) lines y) w) (sym e) has_w),
            );
        all = λ set w in_set has_w.
            are.all (wired_of draft set) w (Contains-map (wired_of draft) laid.sets set in_set)
            (subst (λ (l : List Wire). Contains l w) (sym (wires_alike set in_set lines)) has_w);
      }

      -- their ends are in range
      pub ends_within : LayoutWiresAreRouted → (wires : List CutWire)
          → AreWires (topology_of draft) lines (map (wired_of draft) laid.sets) (map bare_of wires)
          → All (λ w. IsEndInRange (topology_of draft) w.from) wires
      ends_within routed wires are = All-members (λ (w : CutWire). IsEndInRange (topology_of draft) w.from) wires (λ w at.
          let (set, in_set, has_w) = (wires_of_sets (map bare_of wires) are).each (bare_of w) (Contains-map bare_of wires w at) in
          let route = routed (topology_of draft) set.net.0 (pin_in lines set.net.0) (cavities_of draft set.net.0) set.mask set.layout
          sound.whole (cavities_within set in_set) (out set in_set) (bare_of w) has_w in
          route.0.from)
