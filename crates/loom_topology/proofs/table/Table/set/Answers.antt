use Rattle.std.proofs.Common.{ap, ◌∙◌, ◌≡◌, sym, ℕ, List, Option}
use Rattle.std.proofs.Math.ListN.{set}
use Rattle.std.proofs.lemmas.List.{map-set}
use Rattle.loom_topology.specs.Table.{TableView, cell_index, with_cell}
use Rattle.loom_topology.specs.TableInside.{view_of, value_of_code}
use Rattle.loom_topology.proofs.TableCells.{IsWhole-with_cell, value_of_code-cost, small_value}
use Rattle.loom_topology.proofs.table.Table.set.Goals as goal

pub invariant_of-self : goal.invariant_of-self
invariant_of-self c =
    let old = view_of c.self.inside in
    let index : c.index_of-index.result ≡ cell_index old c.args.mask c.args.node.0 =
    c.index_of-index.ensures.value ∙ ap (λ (t : TableView). cell_index t c.args.mask c.args.node.0) (sym c.self.view_is) in
    let code : value_of_code c.unwrap_or.result ≡ c.args.value =
    ap value_of_code c.unwrap_or.ensures ∙ value_of_code-cost c.args.value c.requires.small in
    let with : List (Option ℕ) → TableView = λ cells. record { masks = old.masks; nodes = old.nodes; cells = cells } in
    IsWhole-with_cell old _ c.args.mask c.args.node.0 c.args.value c.self.invariant
    (ap with
    (map-set value_of_code c.self.inside.codes.items c.index_of-index.result c.unwrap_or.result
    ∙ ap (λ i. set old.cells i (value_of_code c.unwrap_or.result)) index
    ∙ ap (set old.cells (cell_index old c.args.mask c.args.node.0)) code))
    (small_value c.args.value c.requires.small)

pub returns : goal.returns
returns c =
    let old = view_of c.self.inside in
    let index : c.index_of-index.result ≡ cell_index old c.args.mask c.args.node.0 =
    c.index_of-index.ensures.value ∙ ap (λ (t : TableView). cell_index t c.args.mask c.args.node.0) (sym c.self.view_is) in
    let code : value_of_code c.unwrap_or.result ≡ c.args.value =
    ap value_of_code c.unwrap_or.ensures ∙ value_of_code-cost c.args.value c.requires.small in
    let with : List (Option ℕ) → TableView = λ cells. record { masks = old.masks; nodes = old.nodes; cells = cells } in
    ap with
    (map-set value_of_code c.self.inside.codes.items c.index_of-index.result c.unwrap_or.result
    ∙ ap (λ i. set old.cells i (value_of_code c.unwrap_or.result)) index
    ∙ ap (set old.cells (cell_index old c.args.mask c.args.node.0)) code)
    ∙ ap (λ (t : TableView). with_cell t c.args.mask c.args.node.0 c.args.value) c.self.view_is
