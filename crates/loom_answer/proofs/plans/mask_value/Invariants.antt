use Rattle.std.proofs.Common.{◌≡◌, map}
use Rattle.std.specs.List.{range_with_len}
use Rattle.serde_json.specs.View.{view}
use Rattle.loom_topology.specs.Table.{cell_at}
use Rattle.loom_answer.specs.Plans.{cell_shown}
use Rattle.loom_answer.proofs.plans.mask_value.Given as goal

abbrev pub invariant-loop-node : goal.invariant-loop-node
invariant-loop-node l =
    map view l.cells.items ≡ map (λ v. cell_shown (cell_at l.table l.mask v)) (range_with_len 0 l.node)
