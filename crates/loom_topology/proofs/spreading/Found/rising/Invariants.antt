use Rattle.std.proofs.Common.{◌≡◌, map}
use Rattle.std.specs.List.{filter, range_with_len}
use Rattle.loom_topology.specs.Found.{is_marked, view_of_found}
use Rattle.loom_topology.proofs.spreading.Found.rising.Given as goal

abbrev pub invariant-loop-number : goal.invariant-loop-number
invariant-loop-number l = map (λ v. v.0) l.list ≡ filter (is_marked (view_of_found l.self)) (range_with_len 0 l.number)
