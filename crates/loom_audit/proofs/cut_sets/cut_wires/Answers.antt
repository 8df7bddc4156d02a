use Rattle.std.proofs.Common.{◌≤◌, ◌<◌, ℕ, List, length, sym, ap, subst, ◌∙◌, arith, rules}
use Rattle.std.specs.List.{All}
use Rattle.std.specs.List.Sorted.{IsPermutation}
use Rattle.std.specs.Ordering.{is_lt}
use Rattle.std.proofs.lemmas.List.Sorted.{ranks_by, answers_always}
use Rattle.std.proofs.lemmas.List.{length-map}
use Rattle.loom_base.specs.declared.positions.CavityNo.{CavityNo}
use Rattle.loom_topology.specs.Topology.{TopologyView}
use Rattle.loom_types.specs.declared.wire.Wire.{Wire}
use Rattle.loom_types.specs.WireOrder.{wire_cmp}
use Rattle.loom_project.specs.Project.{topology_of, cavities_of}
use Rattle.loom_active.proofs.Openings.{net_differs}
use Rattle.loom_active.proofs.OpenTrees.{laid_out-in_project}
use Rattle.loom_audit.specs.CutSets.{IsLaid, wires_of_set}
use Rattle.loom_audit.specs.WireTotals.{wire_cmp_total}
use Rattle.loom_audit.proofs.SetParts.{laid-as_set, wires-as_set}
use Rattle.loom_audit.proofs.cut_sets.cut_wires.Goals as goal

pub set_wires-requires-clause-laid : goal.set_wires-requires-clause-laid
set_wires-requires-clause-laid c =
    let draft = c.args.project.now in
    let set = c.args.set.now in
    let terminals = cavities_of draft set.net.0 in
    let few : length terminals ≤ 32 = omega (arith, c.cavities-cavities.ensures.at_most, ap length c.cavities-cavities.ensures.places, length-map c.cavities-cavities.result.now (λ (x : CavityNo). x.0)) in
    let within : All (λ x. x < length (topology_of draft).cavities) terminals =
    subst (λ (l : List ℕ). All (λ x. x < length l) terminals) (sym (net_differs draft set.net.0).cavities) (c.has_sound_topologies.ensures.terminals set.net.0 c.requires.net) in
    subst (λ (t : TopologyView). IsLaid t c.in_ok-laid.laid) (sym c.topology.ensures.topology)
    (laid-as_set draft set c.in_ok-laid.laid c.in_ok-laid.ensures.net c.in_ok-laid.ensures.cavities c.in_ok-laid.ensures.layout c.requires.set c.set_is_stem_and_rest.ensures few
    (laid_out-in_project draft set.net.0 terminals set.mask set.layout c.requires.laid.laid) within)

pub returns-clause-same : goal.returns-clause-same
returns-clause-same c =
    let draft = c.args.project.now in
    let set = c.args.set.now in
    let terminals = cavities_of draft set.net.0 in
    let few : length terminals ≤ 32 = omega (arith, c.cavities-cavities.ensures.at_most, ap length c.cavities-cavities.ensures.places, length-map c.cavities-cavities.result.now (λ (x : CavityNo). x.0)) in
    subst (λ (l : List Wire). IsPermutation l c.sort_by.new.self.items)
    (c.into_vec-wires.ensures ∙ c.in_ok-set_wires.ensures
    ∙ ap (λ (t : TopologyView). wires_of_set t c.args.pins.now c.in_ok-laid.laid) c.topology.ensures.topology
    ∙ wires-as_set draft set c.in_ok-laid.laid c.in_ok-laid.ensures.net c.in_ok-laid.ensures.cavities c.in_ok-laid.ensures.layout c.requires.set c.set_is_stem_and_rest.ensures few c.args.pins.now)
    c.in_ok-sort_by.ensures.permutation

pub returns-clause-sorted : goal.returns-clause-sorted
returns-clause-sorted c = c.in_ok-sort_by.ensures.sorted (λ x y. is_lt (wire_cmp x y)) (ranks_by wire_cmp_total (λ (w : Wire). w)) (answers_always _ _ _ (λ f a r q k. search rules))
