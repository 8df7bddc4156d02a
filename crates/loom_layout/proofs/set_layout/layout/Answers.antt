use Rattle.std.proofs.Common.{ℕ, List, ◌≡◌, ◌<◌, ◌≤◌, IsSome, length, map, sym, ◌∙◌, ap, subst, arith}
use Rattle.std.specs.List.{All, Contains}
use Rattle.std.proofs.lemmas.Bool.{some_since}
use Rattle.std.proofs.lemmas.List.{length-map}
use Rattle.std.proofs.lemmas.List.Elements.{All-map, All-weaker}
use Rattle.loom_base.specs.declared.positions.CavityNo.{CavityNo}
use Rattle.loom_base.specs.declared.positions.NodeNo.{NodeNo}
use Rattle.loom_topology.specs.Topology.{node_of}
use Rattle.loom_topology.specs.Table.{cell_at}
use Rattle.loom_topology.specs.Reach.{IsReached}
use Rattle.loom_topology.specs.Legal.{IsMask, chosen}
use Rattle.loom_types.specs.SetMask.{rest_of, stem_node}
use Rattle.loom_types.specs.LayoutTree.{tree_of}
use Rattle.loom_layout.specs.Layout.{IsLayoutOf}
use Rattle.loom_layout.proofs.Sets.{some_terminal, stem_in_range, rest_range, reached_of_number, number_of_reached, few_numbers, is_number, isnt_number, of_some, without_same, home_is, layout_of_set, laid_out, costs_the_cell}
use Rattle.loom_layout.proofs.set_layout.layout.Goals as goal

pub stem-requires : goal.stem-requires
stem-requires c = some_terminal (map (λ x. x.0) c.args.terminals.now) c.args.mask c.requires.set (few_numbers c.args.terminals.now c.requires.at_most)

pub bounds-terminals-stem : goal.bounds-terminals-stem
bounds-terminals-stem c =
    let topology = c.args.topology.now in
    let terminals : List ℕ = map (λ x. x.0) c.args.terminals.now in
    let few : length terminals ≤ 12 = few_numbers c.args.terminals.now c.requires.at_most in
    let bound : c.stem.result < length c.args.terminals.now =
    omega (arith, c.stem.ensures, stem_in_range terminals c.args.mask c.requires.set few, length-map c.args.terminals.now (λ (x : CavityNo). x.0)) in
    bound

pub cavity_node-node-requires : goal.cavity_node-node-requires
cavity_node-node-requires c =
    let topology = c.args.topology.now in
    let terminals : List ℕ = map (λ x. x.0) c.args.terminals.now in
    let few : length terminals ≤ 12 = few_numbers c.args.terminals.now c.requires.at_most in
    let bound : c.stem.result < length c.args.terminals.now =
    omega (arith, c.stem.ensures, stem_in_range terminals c.args.mask c.requires.set few, length-map c.args.terminals.now (λ (x : CavityNo). x.0)) in
    c.requires.in_range c.stem.result (record { 0 = 0 }) bound

pub rest-rest-requires : goal.rest-rest-requires
rest-rest-requires c = some_terminal (map (λ x. x.0) c.args.terminals.now) c.args.mask c.requires.set (few_numbers c.args.terminals.now c.requires.at_most)

pub cell-requires-clause-mask_from : goal.cell-requires-clause-mask_from
cell-requires-clause-mask_from c =
    let topology = c.args.topology.now in
    let terminals : List ℕ = map (λ x. x.0) c.args.terminals.now in
    let few : length terminals ≤ 12 = few_numbers c.args.terminals.now c.requires.at_most in
    omega (arith, c.rest-rest.ensures, (rest_range terminals c.args.mask c.requires.set few).0)

pub cell-requires-clause-mask_to : goal.cell-requires-clause-mask_to
cell-requires-clause-mask_to c =
    let topology = c.args.topology.now in
    let terminals : List ℕ = map (λ x. x.0) c.args.terminals.now in
    let few : length terminals ≤ 12 = few_numbers c.args.terminals.now c.requires.at_most in
    omega (arith, c.rest-rest.ensures, (rest_range terminals c.args.mask c.requires.set few).1, c.requires.table.masks)

pub unwrap-cavity-requires : goal.unwrap-cavity-requires
unwrap-cavity-requires c =
    let topology = c.args.topology.now in
    let terminals : List ℕ = map (λ x. x.0) c.args.terminals.now in
    let few : length terminals ≤ 12 = few_numbers c.args.terminals.now c.requires.at_most in
    let bound : c.stem.result < length c.args.terminals.now =
    omega (arith, c.stem.ensures, stem_in_range terminals c.args.mask c.requires.set few, length-map c.args.terminals.now (λ (x : CavityNo). x.0)) in
    let home : c.cavity_node-node.result.0 ≡ stem_node topology terminals c.args.mask =
    home_is topology c.args.terminals.now c.args.mask c.stem.result c.cavity_node-node.result.0 (record { 0 = 0 }) c.stem.ensures bound
    c.cavity_node-node.ensures.node in
    let there : stem_node topology terminals c.args.mask < length topology.nodes =
    subst (λ (v : ℕ). v < length topology.nodes) home c.cavity_node-node.ensures.in_range in
    let least = cell_at c.args.table.now in
    let cell : c.cell.result ≡ least (rest_of c.args.mask) (stem_node topology terminals c.args.mask) =
    c.cell.ensures.value ∙ (ap (λ (r : ℕ). least r c.cavity_node-node.result.0) c.rest-rest.ensures ∙ ap (least (rest_of c.args.mask)) home) in
    some_since c.first_outside.result _ _ c.first_outside.ensures
    (λ all. isnt_number c.cell.result (least (rest_of c.args.mask) (stem_node topology terminals c.args.mask)) c.is_none.result
    c.is_none.ensures c.if-is_none.true cell
    (number_of_reached terminals c.args.mask c.requires.set few topology least c.requires.table.least there
    (All-weaker (λ x. Contains (map (λ v. v.0) c.as_slice.result.now) (node_of topology x))
    (λ x. IsReached topology (stem_node topology terminals c.args.mask) (node_of topology x))
    (λ x listed. subst (λ (v : ℕ). IsReached topology v (node_of topology x)) home
    ((c.in_ok-reached.ensures.reached (node_of topology x)).0
    (subst (λ (l : List NodeNo). Contains (map (λ v. v.0) l) (node_of topology x)) c.as_slice.ensures listed)))
    (chosen terminals c.args.mask) all)))

pub returns-then-is_none-clause-stop : goal.returns-then-is_none-clause-stop
returns-then-is_none-clause-stop c =
    let topology = c.args.topology.now in
    let terminals : List ℕ = map (λ x. x.0) c.args.terminals.now in
    let few : length terminals ≤ 12 = few_numbers c.args.terminals.now c.requires.at_most in
    let bound : c.stem.result < length c.args.terminals.now =
    omega (arith, c.stem.ensures, stem_in_range terminals c.args.mask c.requires.set few, length-map c.args.terminals.now (λ (x : CavityNo). x.0)) in
    let home : c.cavity_node-node.result.0 ≡ stem_node topology terminals c.args.mask =
    home_is topology c.args.terminals.now c.args.mask c.stem.result c.cavity_node-node.result.0 (record { 0 = 0 }) c.stem.ensures bound
    c.cavity_node-node.ensures.node in
    let there : stem_node topology terminals c.args.mask < length topology.nodes =
    subst (λ (v : ℕ). v < length topology.nodes) home c.cavity_node-node.ensures.in_range in (
      without_same (λ x. Contains (map (λ v. v.0) c.as_slice.result.now) (node_of topology x))
          (λ x. IsReached topology (stem_node topology terminals c.args.mask) (node_of topology x))
          (chosen terminals c.args.mask) c.unwrap-cavity.result.0
          (λ x listed. subst (λ (v : ℕ). IsReached topology v (node_of topology x)) home
          ((c.in_ok-reached.ensures.reached (node_of topology x)).0
          (subst (λ (l : List NodeNo). Contains (map (λ v. v.0) l) (node_of topology x)) c.as_slice.ensures listed)))
          (λ x reached. subst (λ (l : List NodeNo). Contains (map (λ v. v.0) l) (node_of topology x)) (sym c.as_slice.ensures)
          ((c.in_ok-reached.ensures.reached (node_of topology x)).1
          (subst (λ (v : ℕ). IsReached topology v (node_of topology x)) (sym home) reached)))
          (of_some c.first_outside.result c.unwrap-cavity.result _ _ c.first_outside.ensures c.unwrap-cavity.ensures),
      record {
        rising = c.in_ok-reached.ensures.rising;
        reached = λ u. (
          (λ listed. subst (λ (v : ℕ). IsReached topology v u) home ((c.in_ok-reached.ensures.reached u).0 listed)),
          (λ reached. (c.in_ok-reached.ensures.reached u).1 (subst (λ (v : ℕ). IsReached topology v u) (sym home) reached)),
        );
      },
    )

pub laid_from-requires-clause-mask : goal.laid_from-requires-clause-mask
laid_from-requires-clause-mask c =
    let topology = c.args.topology.now in
    let terminals : List ℕ = map (λ x. x.0) c.args.terminals.now in
    let few : length terminals ≤ 12 = few_numbers c.args.terminals.now c.requires.at_most in
    subst (λ (r : ℕ). IsMask terminals r) (sym c.rest-rest.ensures) (rest_range terminals c.args.mask c.requires.set few)

pub returns-clause-fixed : goal.returns-clause-fixed
returns-clause-fixed c =
    let topology = c.args.topology.now in
    let terminals : List ℕ = map (λ x. x.0) c.args.terminals.now in
    let few : length terminals ≤ 12 = few_numbers c.args.terminals.now c.requires.at_most in
    let bound : c.stem.result < length c.args.terminals.now =
    omega (arith, c.stem.ensures, stem_in_range terminals c.args.mask c.requires.set few, length-map c.args.terminals.now (λ (x : CavityNo). x.0)) in
    let home : c.cavity_node-node.result.0 ≡ stem_node topology terminals c.args.mask =
    home_is topology c.args.terminals.now c.args.mask c.stem.result c.cavity_node-node.result.0 (record { 0 = 0 }) c.stem.ensures bound
    c.cavity_node-node.ensures.node in
    let there : stem_node topology terminals c.args.mask < length topology.nodes =
    subst (λ (v : ℕ). v < length topology.nodes) home c.cavity_node-node.ensures.in_range in
    let least = cell_at c.args.table.now in
    layout_of_set topology terminals least c.args.mask c.rest-rest.result c.cavity_node-node.result.0 (tree_of c.in_ok-layout.layout)
    c.rest-rest.ensures home c.in_ok-layout.ensures

pub returns-clause-laid_out : goal.returns-clause-laid_out
returns-clause-laid_out c =
    let topology = c.args.topology.now in
    let terminals : List ℕ = map (λ x. x.0) c.args.terminals.now in
    let few : length terminals ≤ 12 = few_numbers c.args.terminals.now c.requires.at_most in
    let bound : c.stem.result < length c.args.terminals.now =
    omega (arith, c.stem.ensures, stem_in_range terminals c.args.mask c.requires.set few, length-map c.args.terminals.now (λ (x : CavityNo). x.0)) in
    let home : c.cavity_node-node.result.0 ≡ stem_node topology terminals c.args.mask =
    home_is topology c.args.terminals.now c.args.mask c.stem.result c.cavity_node-node.result.0 (record { 0 = 0 }) c.stem.ensures bound
    c.cavity_node-node.ensures.node in
    let there : stem_node topology terminals c.args.mask < length topology.nodes =
    subst (λ (v : ℕ). v < length topology.nodes) home c.cavity_node-node.ensures.in_range in
    let least = cell_at c.args.table.now in
    let cell : c.cell.result ≡ least (rest_of c.args.mask) (stem_node topology terminals c.args.mask) =
    c.cell.ensures.value ∙ (ap (λ (r : ℕ). least r c.cavity_node-node.result.0) c.rest-rest.ensures ∙ ap (least (rest_of c.args.mask)) home) in
    let some : IsSome (least (rest_of c.args.mask) (stem_node topology terminals c.args.mask)) =
    is_number c.cell.result (least (rest_of c.args.mask) (stem_node topology terminals c.args.mask)) c.is_none.result c.is_none.ensures c.if-is_none.false cell in
    let in_range : All (λ x. x < length topology.cavities) terminals =
    All-map (λ x. x < length topology.cavities) (λ x. x.0) c.args.terminals.now c.requires.in_range in
    let fixed : IsLayoutOf topology terminals least c.args.mask c.in_ok-layout.layout =
    layout_of_set topology terminals least c.args.mask c.rest-rest.result c.cavity_node-node.result.0 (tree_of c.in_ok-layout.layout)
    c.rest-rest.ensures home c.in_ok-layout.ensures in
    laid_out topology terminals least c.args.mask c.in_ok-layout.layout c.node_count-nodes.ensures.sound in_range c.requires.table.least some fixed

pub returns-clause-cost : goal.returns-clause-cost
returns-clause-cost c =
    let topology = c.args.topology.now in
    let terminals : List ℕ = map (λ x. x.0) c.args.terminals.now in
    let few : length terminals ≤ 12 = few_numbers c.args.terminals.now c.requires.at_most in
    let bound : c.stem.result < length c.args.terminals.now =
    omega (arith, c.stem.ensures, stem_in_range terminals c.args.mask c.requires.set few, length-map c.args.terminals.now (λ (x : CavityNo). x.0)) in
    let home : c.cavity_node-node.result.0 ≡ stem_node topology terminals c.args.mask =
    home_is topology c.args.terminals.now c.args.mask c.stem.result c.cavity_node-node.result.0 (record { 0 = 0 }) c.stem.ensures bound
    c.cavity_node-node.ensures.node in
    let there : stem_node topology terminals c.args.mask < length topology.nodes =
    subst (λ (v : ℕ). v < length topology.nodes) home c.cavity_node-node.ensures.in_range in
    let least = cell_at c.args.table.now in
    let cell : c.cell.result ≡ least (rest_of c.args.mask) (stem_node topology terminals c.args.mask) =
    c.cell.ensures.value ∙ (ap (λ (r : ℕ). least r c.cavity_node-node.result.0) c.rest-rest.ensures ∙ ap (least (rest_of c.args.mask)) home) in
    let some : IsSome (least (rest_of c.args.mask) (stem_node topology terminals c.args.mask)) =
    is_number c.cell.result (least (rest_of c.args.mask) (stem_node topology terminals c.args.mask)) c.is_none.result c.is_none.ensures c.if-is_none.false cell in
    let in_range : All (λ x. x < length topology.cavities) terminals =
    All-map (λ x. x < length topology.cavities) (λ x. x.0) c.args.terminals.now c.requires.in_range in
    let fixed : IsLayoutOf topology terminals least c.args.mask c.in_ok-layout.layout =
    layout_of_set topology terminals least c.args.mask c.rest-rest.result c.cavity_node-node.result.0 (tree_of c.in_ok-layout.layout)
    c.rest-rest.ensures home c.in_ok-layout.ensures in
    costs_the_cell topology terminals least c.args.mask c.in_ok-layout.layout c.node_count-nodes.ensures.sound in_range c.requires.table.least some fixed

pub returns-clause-reached : goal.returns-clause-reached
returns-clause-reached c =
    let topology = c.args.topology.now in
    let terminals : List ℕ = map (λ x. x.0) c.args.terminals.now in
    let few : length terminals ≤ 12 = few_numbers c.args.terminals.now c.requires.at_most in
    let bound : c.stem.result < length c.args.terminals.now =
    omega (arith, c.stem.ensures, stem_in_range terminals c.args.mask c.requires.set few, length-map c.args.terminals.now (λ (x : CavityNo). x.0)) in
    let home : c.cavity_node-node.result.0 ≡ stem_node topology terminals c.args.mask =
    home_is topology c.args.terminals.now c.args.mask c.stem.result c.cavity_node-node.result.0 (record { 0 = 0 }) c.stem.ensures bound
    c.cavity_node-node.ensures.node in
    let there : stem_node topology terminals c.args.mask < length topology.nodes =
    subst (λ (v : ℕ). v < length topology.nodes) home c.cavity_node-node.ensures.in_range in
    let least = cell_at c.args.table.now in
    let cell : c.cell.result ≡ least (rest_of c.args.mask) (stem_node topology terminals c.args.mask) =
    c.cell.ensures.value ∙ (ap (λ (r : ℕ). least r c.cavity_node-node.result.0) c.rest-rest.ensures ∙ ap (least (rest_of c.args.mask)) home) in
    let some : IsSome (least (rest_of c.args.mask) (stem_node topology terminals c.args.mask)) =
    is_number c.cell.result (least (rest_of c.args.mask) (stem_node topology terminals c.args.mask)) c.is_none.result c.is_none.ensures c.if-is_none.false cell in
    reached_of_number terminals c.args.mask c.requires.set few topology least c.requires.table.least there some
