use Rattle.std.proofs.Common.{ℕ, List, ◌≡◌, ◌<◌, ◌≤◌, length, get_or, slice_index, sym, ap, ◌∙◌, arith}
use Rattle.std.proofs.lemmas.List.{length-map, get_or-map}
use Rattle.loom_base.specs.declared.positions.CavityNo.{CavityNo}
use Rattle.loom_topology.specs.Topology.{TopologyView, node_of}
use Rattle.loom_project.specs.Project.{net_topology, cavities_of}
use Rattle.loom_active.proofs.Openings.{net_differs}
use Rattle.loom_audit.proofs.SetParts.{mask_some}
use Rattle.loom_audit.proofs.SetTables.{stem_in_range}
use Rattle.loom_audit.proofs.set_tables.home.Goals as goal

pub stem-requires : goal.stem-requires
stem-requires c = mask_some (cavities_of c.args.project.now c.args.set.now.net.0) c.args.set.now.mask c.requires.set

pub bounds-cavities-stem : goal.bounds-cavities-stem
bounds-cavities-stem c =
    let terminals = cavities_of c.args.project.now c.args.set.now.net.0 in
    let long : length c.cavities.result.now ≡ length terminals = sym (length-map c.cavities.result.now (λ (x : CavityNo). x.0)) ∙ ap length c.cavities.ensures.places in
    let few : length terminals ≤ 12 = omega (arith, c.cavities.ensures.at_most, long) in
    omega (arith, c.stem.ensures, stem_in_range terminals c.args.set.now.mask c.requires.set few, long)

pub cavity_node-requires : goal.cavity_node-requires
cavity_node-requires c =
    let terminals = cavities_of c.args.project.now c.args.set.now.net.0 in
    let long : length c.cavities.result.now ≡ length terminals = sym (length-map c.cavities.result.now (λ (x : CavityNo). x.0)) ∙ ap length c.cavities.ensures.places in
    let few : length terminals ≤ 12 = omega (arith, c.cavities.ensures.at_most, long) in
    let bound : c.stem.result < length c.cavities.result.now =
    omega (arith, c.stem.ensures, stem_in_range terminals c.args.set.now.mask c.requires.set few, long) in
    omega (arith, c.cavities.ensures.in_range c.stem.result (record { 0 = 0 }) bound, c.topology.ensures.cavities)

pub returns-clause-node : goal.returns-clause-node
returns-clause-node c =
    let draft = c.args.project.now in
    let net = c.args.set.now.net.0 in
    let terminals = cavities_of draft net in
    let cavities = c.cavities.result.now in
    let stem : ℕ = c.stem.result in
    let none : CavityNo = record { 0 = 0 } in
    let long : length cavities ≡ length terminals = sym (length-map cavities (λ (x : CavityNo). x.0)) ∙ ap length c.cavities.ensures.places in
    let few : length terminals ≤ 12 = omega (arith, c.cavities.ensures.at_most, long) in
    let bound : stem < length cavities = omega (arith, c.stem.ensures, stem_in_range terminals c.args.set.now.mask c.requires.set few, long) in
    c.cavity_node.ensures.node
    ∙ ap (λ (t : TopologyView). node_of t (get_or cavities stem none).0) c.topology.ensures.topology
    ∙ ap (λ (l : List ℕ). slice_index l (get_or cavities stem none).0) (net_differs draft net).cavities
    ∙ ap (node_of (net_topology draft net)) (sym (get_or-map (λ (x : CavityNo). x.0) cavities stem none 0 bound))
    ∙ ap (λ (l : List ℕ). node_of (net_topology draft net) (slice_index l stem)) c.cavities.ensures.places
    ∙ ap (λ (k : ℕ). node_of (net_topology draft net) (slice_index terminals k)) c.stem.ensures
