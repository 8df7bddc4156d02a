use Rattle.std.proofs.Common.{◌≡◌, Ok, map}
use Rattle.std.specs.List.{range_with_len}
use Rattle.loom_topology.specs.Table.{cell_at}
use Rattle.loom_base.specs.First.{every}
use Rattle.loom_potential.specs.FirstBreak.{cell_check}
use Rattle.loom_potential.proofs.inequalities.test_mask.Given as goal

abbrev pub invariant-loop-node : goal.invariant-loop-node
invariant-loop-node l =
    every (cell_check l.topology (map (λ c. c.0) l.terminals) (cell_at l.table) l.mask) (range_with_len 0 l.node) ≡ Ok tt
