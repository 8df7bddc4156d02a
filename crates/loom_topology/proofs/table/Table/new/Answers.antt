use Rattle.std.proofs.Common.{ap, ◌∙◌, ◌*◌, map, ℕ, List, Option}
use Rattle.loom_topology.specs.Table.{TableView}
use Rattle.loom_topology.specs.TableInside.{value_of_code}
use Rattle.loom_topology.proofs.TableCells.{IsWhole-empty_table, map-replicate}
use Rattle.loom_topology.proofs.table.Table.new.Goals as goal

pub invariant_of-result : goal.invariant_of-result
invariant_of-result c =
    let with : List (Option ℕ) → TableView = λ cells. record { masks = c.args.masks; nodes = c.args.nodes; cells = cells } in
    IsWhole-empty_table _ c.args.masks c.args.nodes
    (ap with
    (ap (map value_of_code) (c.in_ok-codes.ensures.items_if_clones_equal (λ y e. e))
    ∙ map-replicate value_of_code (c.args.masks * c.args.nodes) 18446744073709551615))

pub returns : goal.returns
returns c =
    let with : List (Option ℕ) → TableView = λ cells. record { masks = c.args.masks; nodes = c.args.nodes; cells = cells } in
    ap with
    (ap (map value_of_code) (c.in_ok-codes.ensures.items_if_clones_equal (λ y e. e))
    ∙ map-replicate value_of_code (c.args.masks * c.args.nodes) 18446744073709551615)
