use Rattle.std.proofs.Common.{ℕ, List, length, map, ◌<◌, ◌≤◌, ◌≡◌, ap, ◌∙◌, arith}
use Rattle.std.proofs.lemmas.List.{length-map}
use Rattle.loom_base.specs.declared.positions.CavityNo.{CavityNo}
use Rattle.loom_topology.specs.Table.{cell_at}
use Rattle.loom_types.specs.SetMask.{rest_of, stem_node}
use Rattle.loom_layout.proofs.Sets.{some_terminal, stem_in_range, rest_range, few_numbers, home_is}
use Rattle.loom_laid.proofs.laying.set_cost.Goals as goal

pub stem-requires : goal.stem-requires
stem-requires c = some_terminal (map (λ x. x.0) c.args.terminals.now) c.args.mask c.requires.set (few_numbers c.args.terminals.now c.requires.at_most)

pub bounds-terminals-stem : goal.bounds-terminals-stem
bounds-terminals-stem c =
    let terminals : List ℕ = map (λ x. x.0) c.args.terminals.now in
    let few : length terminals ≤ 12 = few_numbers c.args.terminals.now c.requires.at_most in
    let bound : c.stem.result < length c.args.terminals.now =
    omega (arith, c.stem.ensures, stem_in_range terminals c.args.mask c.requires.set few, length-map c.args.terminals.now (λ (x : CavityNo). x.0)) in
    bound

pub cavity_node-node-requires : goal.cavity_node-node-requires
cavity_node-node-requires c =
    let terminals : List ℕ = map (λ x. x.0) c.args.terminals.now in
    let few : length terminals ≤ 12 = few_numbers c.args.terminals.now c.requires.at_most in
    let bound : c.stem.result < length c.args.terminals.now =
    omega (arith, c.stem.ensures, stem_in_range terminals c.args.mask c.requires.set few, length-map c.args.terminals.now (λ (x : CavityNo). x.0)) in
    c.requires.in_range c.stem.result (record { 0 = 0 }) bound

pub rest-requires : goal.rest-requires
rest-requires c = some_terminal (map (λ x. x.0) c.args.terminals.now) c.args.mask c.requires.set (few_numbers c.args.terminals.now c.requires.at_most)

pub cell-requires-clause-mask_from : goal.cell-requires-clause-mask_from
cell-requires-clause-mask_from c =
    let terminals : List ℕ = map (λ x. x.0) c.args.terminals.now in
    let few : length terminals ≤ 12 = few_numbers c.args.terminals.now c.requires.at_most in
    omega (arith, c.rest.ensures, (rest_range terminals c.args.mask c.requires.set few).0)

pub cell-requires-clause-mask_to : goal.cell-requires-clause-mask_to
cell-requires-clause-mask_to c =
    let terminals : List ℕ = map (λ x. x.0) c.args.terminals.now in
    let few : length terminals ≤ 12 = few_numbers c.args.terminals.now c.requires.at_most in
    omega (arith, c.rest.ensures, (rest_range terminals c.args.mask c.requires.set few).1, c.requires.masks)

pub returns : goal.returns
returns c =
    let topology = c.args.topology.now in
    let terminals : List ℕ = map (λ x. x.0) c.args.terminals.now in
    let few : length terminals ≤ 12 = few_numbers c.args.terminals.now c.requires.at_most in
    let bound : c.stem.result < length c.args.terminals.now =
    omega (arith, c.stem.ensures, stem_in_range terminals c.args.mask c.requires.set few, length-map c.args.terminals.now (λ (x : CavityNo). x.0)) in
    let home : c.cavity_node-node.result.0 ≡ stem_node topology terminals c.args.mask =
    home_is topology c.args.terminals.now c.args.mask c.stem.result c.cavity_node-node.result.0 (record { 0 = 0 }) c.stem.ensures bound
    c.cavity_node-node.ensures.node in
    let least = cell_at c.args.table.now in
    c.cell.ensures.value ∙ (ap (λ (r : ℕ). least r c.cavity_node-node.result.0) c.rest.ensures ∙ ap (least (rest_of c.args.mask)) home)
