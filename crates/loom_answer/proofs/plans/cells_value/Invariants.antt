use Rattle.std.proofs.Common.{◌≡◌, ◌+◌, map}
use Rattle.std.specs.List.{range_with_len}
use Rattle.serde_json.specs.View.{view}
use Rattle.loom_answer.specs.Plans.{mask_shown}
use Rattle.loom_answer.proofs.plans.cells_value.Given as goal

abbrev pub invariant-loop-place : goal.invariant-loop-place
invariant-loop-place l =
    map view l.rows.items ≡ map (λ place. mask_shown l.table (place + 1)) (range_with_len 0 l.place)
