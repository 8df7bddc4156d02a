-- The number of a plan's steps fits a number of 64 bits.
use Rattle.std.proofs.Common.{◌≡◌, ℕ, ◌≤◌, ◌<◌, ◌-◌, ◌*◌, ◌^◌, List, length, get_or, Option, Ok, ap, sym, subst, arith, Contains, sum_by}
use Rattle.std.proofs.lemmas.Nat.{mul-le, pow_below}
use Rattle.std.proofs.lemmas.List.{length-map}
use Rattle.std.proofs.lemmas.List.Sums.{sum_by-le}
use Rattle.loom_topology.specs.Topology.{TopologyView}
use Rattle.loom_topology.specs.Table.{cell_at}
use Rattle.loom_topology.specs.WiringTree.{Tree}
use Rattle.loom_project.specs.declared.draft.Draft.{Draft}
use Rattle.loom_project.specs.declared.draft.TerminalDraft.{TerminalDraft}
use Rattle.loom_project.specs.Draft.{index_of, cavity_names}
use Rattle.loom_project.specs.Project.{net_topology, cavities_of, net_at, HasSoundTopologies}
use Rattle.loom_project.proofs.NetLemmas.{net_sound}
use Rattle.loom_project.specs.Sound.{draft_check}
use Rattle.loom_types.specs.declared.plan.Plan.{Plan}
use Rattle.loom_types.specs.declared.plan.SetLine.{SetLine}
use Rattle.loom_types.specs.SetMask.{rest_of, stem_node}
use Rattle.loom_types.specs.LayoutTree.{step_of}
use Rattle.loom_layout.specs.Walk.{left_of}
use Rattle.loom_layout.proofs.Left.{few_steps, nearer-le}
use Rattle.loom_active.proofs.Pairs.{at_index}
use Rattle.loom_active.proofs.SetLemmas.{live-in_range}
use Rattle.loom_plan.specs.FirstStop.{HasPlan}
use Rattle.loom_plan.specs.PlanOf.{IsPlanOf}
use Rattle.loom_plan.proofs.PrintedSets.{rest_is_mask}
use Rattle.loom_top.specs.Trials.{steps_of}
use Rattle.loom_top.proofs.PlanCosts.{few-printed}

-- what is left of a mask below 4,096 over at most 1,024 nodes
left-small : (topology : TopologyView) (least : ℕ → ℕ → Option ℕ) (mask v : ℕ) → length topology.nodes ≤ 1024 → mask ≤ 4096
    → left_of topology least mask v ≤ 2 ^ 24
left-small topology least mask v nodes masks =
    let product : mask * length topology.nodes ≤ 4096 * 1024 = mul-le mask (length topology.nodes) 4096 1024 masks nodes in
    omega (arith, product, nodes, nearer-le topology least mask v)

module _ (draft : Draft) (passed : draft_check draft ≡ Ok tt) (sound : HasSoundTopologies draft) where
  -- the layout of a printed set has few steps
  set-steps : (plan : Plan) → IsPlanOf draft plan → (set : SetLine) → Contains plan.sets set → length set.layout.steps ≤ 2 ^ 24
  set-steps plan is set at =
      let net = set.net.0 in
      let live = is.sets.each set at in
      let laid = is.laid set at in
      let (laying, from, same) = laid.layout in
      let within = live-in_range draft net set.mask live in
      let few : length (cavities_of draft net) ≤ 12 =
      omega (arith, (net_sound draft net passed within).few, length-map (net_at draft net).terminals (λ (t : TerminalDraft). index_of (cavity_names draft.cavities) t.cavity)) in
      let range = rest_is_mask draft passed sound net set.mask live in
      let power : 2 ^ (length (cavities_of draft net) - 1) < 2 ^ 12 = pow_below (length (cavities_of draft net) - 1) 12 (omega (arith, few)) in
      let steps = few_steps (net_topology draft net) (cell_at laid.line.table) (cavities_of draft net) (sound.each net) from in
      let left = left-small (net_topology draft net) (cell_at laid.line.table) (rest_of set.mask)
      (stem_node (net_topology draft net) (cavities_of draft net) set.mask) (sound.each net).few_nodes (omega (arith, range.1, power)) in
      omega (arith, steps, left, length-map set.layout.steps step_of, ap (λ (t : Tree). length t.steps) same)

  -- so has a plan
  pub steps-small : (plan : Plan) → IsPlanOf draft plan → HasPlan draft → steps_of plan ≤ 16384 * 2 ^ 24
  steps-small plan is has =
      let most = sum_by-le (λ (set : SetLine). length set.layout.steps) (2 ^ 24) plan.sets
      (λ k d lt. set-steps plan is (get_or plan.sets k d) (at_index plan.sets k d lt)) in
      omega (arith, most, few-printed draft plan is has)

  -- and fits
  pub steps-fits : (plan : Plan) (sets : List SetLine) → sets ≡ plan.sets → IsPlanOf draft plan → HasPlan draft
      → sum_by (λ set. length set.layout.steps) sets < 2 ^ 64
  steps-fits plan sets same is has =
      let small = steps-small plan is has in
      let fits : steps_of plan < 2 ^ 64 = omega (arith, small) in
      subst (λ (ss : List SetLine). sum_by (λ set. length set.layout.steps) ss < 2 ^ 64) (sym same) fits
