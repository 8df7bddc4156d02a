-- What a first stop tells by position is in range, so it has a name.
use Rattle.std.proofs.Common.{◌≡◌, ◌≢◌, ℕ, ◌<◌, Bool, false, List, length, map, get_or, Ok, refl, sym, ap, subst, ◌∙◌, arith, IsTrue, Contains, inl, inr}
use Rattle.std.specs.List.{All}
use Rattle.std.specs.Prelude.{filter}
use Rattle.std.proofs.lemmas.Bool.{cases_lt, and_parts, eqb-true, true≢false}
use Rattle.std.proofs.lemmas.List.{get_or_past}
use Rattle.loom_base.specs.declared.positions.NodeNo.{NodeNo}
use Rattle.loom_base.proofs.Contained.{Contains-map, Contains-from_map}
use Rattle.loom_formula.specs.Choice.{choice_at}
use Rattle.loom_formula.specs.Formula.{holds_of}
use Rattle.loom_topology.specs.Topology.{TopologyView, IsSound, segment_at, is_coupler, no_segment}
use Rattle.loom_topology.specs.Legal.{chosen}
use Rattle.loom_topology.specs.Reach.{IsReached}
use Rattle.loom_topology.proofs.LeastLegal.{leads_below}
use Rattle.loom_project.specs.declared.draft.Draft.{Draft}
use Rattle.loom_project.specs.declared.draft.TerminalDraft.{TerminalDraft}
use Rattle.loom_project.specs.Draft.{index_of, cavity_names}
use Rattle.loom_project.specs.Project.{topology_of, net_topology, no_net, cavities_of, HasSoundTopologies}
use Rattle.loom_project.specs.Sound.{draft_check}
use Rattle.loom_project.proofs.PartsLemmas.{count_segments, count_net_nodes, count_net_cavities}
use Rattle.loom_types.specs.declared.stop.PlanStop.{PlanStop}
use Rattle.loom_types.specs.declared.stop.PlanStop.TheVariants as stops
use Rattle.loom_types.specs.declared.plan.SetLine.{SetLine}
use Rattle.loom_types.specs.SetMask.{stem_node}
use Rattle.loom_types.specs.Slots.{Slot, has_slot}
use Rattle.loom_active.specs.Needs.{need_of}
use Rattle.loom_active.specs.LiveSets.{need_mask, IsLiveSet}
use Rattle.loom_active.proofs.ClashLemmas.{place_in}
use Rattle.loom_active.proofs.NeedMasks.{need-chosen}
use Rattle.loom_active.proofs.Pairs.{at_index}
use Rattle.loom_active.proofs.SetLemmas.{live-in_range}
use Rattle.loom_laid.specs.declared.laid_set.LaidSet.{LaidSet}
use Rattle.loom_laid.specs.LaidSets.{live_of}
use Rattle.loom_plan.specs.FirstStop.{FirstStop, LacksPin, LaysSets}
use Rattle.loom_plan.specs.Work.{line_of}
use Rattle.loom_plan.proofs.PrintedSets.{chosen-member, All-member, set_in_range}
use Rattle.loom_answer.specs.Stops.{IsNameable}

-- a chain of open segments stays among the nodes
reached_below : (topology : TopologyView) → IsSound topology → (v u : ℕ) → v < length topology.nodes → IsReached topology v u → u < length topology.nodes
reached_below topology sound v u lt IsReached.here = lt
reached_below topology sound v u lt (IsReached.over s w leads rest) =
    reached_below topology sound w u (leads_below topology s v w sound leads) rest

-- a net past the list needs nothing
need-in_range : (draft : Draft) (choice : ℕ → Bool) (net cavity : ℕ) → Contains (need_of draft choice net) cavity → net < length draft.nets
need-in_range draft choice net cavity at =
    elim (cases_lt net (length draft.nets)) [
      | inl lt ↦ lt
      | inr past ↦
          let none : length (need_of draft choice net) ≡ 0 = ap (λ n. length (map (λ (d : TerminalDraft). index_of (cavity_names draft.cavities) d.cavity) (filter (λ (d : TerminalDraft). holds_of d.when draft.options choice) n.terminals))) (get_or_past draft.nets net no_net past) in
          absurd (omega (arith, at.1, none))
    ]

module _ (draft : Draft) (passed : draft_check draft ≡ Ok tt) (sound : HasSoundTopologies draft) where
  -- a cavity that a mask of a net's chooses is one of the draft's
  chosen-in_range : (net mask cavity : ℕ) → net < length draft.nets → Contains (chosen (cavities_of draft net) mask) cavity → cavity < length draft.cavities
  chosen-in_range net mask cavity within at =
      subst (λ (n : ℕ). cavity < n) (count_net_cavities draft net)
      (All-member (λ c. c < length (net_topology draft net).cavities) (cavities_of draft net) cavity (sound.terminals net within)
      (chosen-member (cavities_of draft net) mask cavity at))

  clash-cavity : (choice : ℕ → Bool) (net cavity : ℕ) → Contains (need_of draft choice net) cavity → cavity < length draft.cavities
  clash-cavity choice net cavity at =
      chosen-in_range net (need_mask draft choice net) cavity (need-in_range draft choice net cavity at)
      (subst (λ (l : List ℕ). Contains l cavity) (sym (need-chosen draft choice net)) at)

  -- the node of a live set's first cavity is one of the draft's
  stem-in_range : (net mask : ℕ) → IsLiveSet draft net mask → stem_node (net_topology draft net) (cavities_of draft net) mask < length (net_topology draft net).nodes
  stem-in_range net mask live =
      let stem = set_in_range draft passed sound net mask live 0 0 (omega arith) in
      (sound.each net).cavities _ 0 stem

  unreachable-nameable : (net mask cavity : ℕ) (reached : List NodeNo) → IsLiveSet draft net mask
      → (place : ℕ) → place < length (chosen (cavities_of draft net) mask) → get_or (chosen (cavities_of draft net) mask) place 0 ≡ cavity
      → ((u : ℕ) → Contains (map (λ node. node.0) reached) u → IsReached (net_topology draft net) (stem_node (net_topology draft net) (cavities_of draft net) mask) u)
      → (net < length draft.nets) × (cavity < length draft.cavities) × All (λ node. node.0 < length draft.nodes) reached
  unreachable-nameable net mask cavity reached live place within at are =
      let in_range = live-in_range draft net mask live in (
        in_range,
        chosen-in_range net mask cavity in_range
            (subst (λ (c : ℕ). Contains (chosen (cavities_of draft net) mask) c) at (at_index (chosen (cavities_of draft net) mask) place 0 within)),
        (λ k d lt.
            let u = get_or reached k d in
            subst (λ (n : ℕ). u.0 < n) (count_net_nodes draft net)
            (reached_below (net_topology draft net) (sound.each net) _ u.0 (stem-in_range net mask live)
            (are u.0 (Contains-map (λ node. node.0) reached u (at_index reached k d lt))))),
      )

  coupler-in_range : (s : ℕ) → IsTrue (is_coupler (segment_at (topology_of draft) s).kind) → s < length draft.segments
  coupler-in_range s is =
      elim (cases_lt s (length (topology_of draft).segments)) [
        | inl lt ↦ subst (λ (n : ℕ). s < n) (count_segments draft (topology_of draft) refl) lt
        | inr past ↦
            let none : is_coupler (segment_at (topology_of draft) s).kind ≡ false = ap (λ g. is_coupler g.kind) (get_or_past (topology_of draft).segments s no_segment past) in
            absurd (true≢false (sym is ∙ none))
      ]

  slot-net : (laid : List LaidSet) (slot : Slot) → LaysSets draft laid → (set : SetLine) → Contains (map line_of laid) set → IsTrue (has_slot set slot) → slot.net < length draft.nets
  slot-net laid slot lays set at has =
      let from = Contains-from_map line_of laid set at in
      let l = from.0 in
      let listed = subst (λ sets. Contains sets (live_of l)) lays.are_laid.same (Contains-map live_of laid l from.1) in
      let within : l.net.0 < length draft.nets = live-in_range draft l.net.0 l.mask (lays.are_sets.each (live_of l) listed) in
      let same : set.net.0 ≡ slot.net = eqb-true set.net.0 slot.net (and_parts _ _ has).0 in
      let line : l.net.0 ≡ set.net.0 = ap (λ s. s.net.0) from.2 in
      subst (λ (n : ℕ). n < length draft.nets) (line ∙ same) within

  no_pin-nameable : (slot : Slot) → LacksPin draft slot → (slot.net < length draft.nets) × (slot.coupler < length draft.segments)
  no_pin-nameable slot lacks =
      let is = lacks.works.are_slots.each slot (place_in lacks.slots lacks.at slot lacks.stands) in
      let (coupler, (set, at, has)) = is in
      (slot-net lacks.laid slot lacks.works.lays set at has, coupler-in_range slot.coupler coupler)

  -- a first stop that isn't want of memory has a name
  pub first_stop-nameable : (stop : PlanStop) → stop ≢ stops.NoMemory → FirstStop draft stop → IsNameable draft stop
  first_stop-nameable stops.NoChoice other is = _
  first_stop-nameable (stops.Clash cavity first second choice) other (few, values, clash) = (
    clash-cavity (choice_at choice.values) first.0 cavity.0 clash.clash.in_first,
    need-in_range draft (choice_at choice.values) first.0 cavity.0 clash.clash.in_first,
    need-in_range draft (choice_at choice.values) second.0 cavity.0 clash.clash.in_second,
    values,
  )
  first_stop-nameable (stops.Unreachable net cavity reached) other is =
      let (few, (mask, unreached, (without, the_reached))) = is.stops in
      unreachable-nameable net.0 mask cavity.0 reached unreached.live without.place without.within without.at (λ u at. (the_reached.reached u).0 at)
  first_stop-nameable (stops.NoPin net coupler ordinal) other is = no_pin-nameable (record { net = net.0; coupler = coupler.0; ordinal = ordinal }) is
  first_stop-nameable (stops.Limit which count) other is = _
  first_stop-nameable stops.NoMemory other is = absurd (other refl)
