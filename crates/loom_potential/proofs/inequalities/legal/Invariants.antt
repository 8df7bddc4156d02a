use Rattle.std.proofs.Common.{◌≡◌, ◌-◌, Ok, map}
use Rattle.std.specs.List.{range_with_len}
use Rattle.loom_topology.specs.Table.{cell_at}
use Rattle.loom_base.specs.First.{every}
use Rattle.loom_potential.specs.FirstBreak.{mask_check}
use Rattle.loom_potential.proofs.inequalities.legal.Given as goal

abbrev pub invariant-loop-mask : goal.invariant-loop-mask
invariant-loop-mask l =
    every (mask_check l.topology (map (λ c. c.0) l.terminals) (cell_at l.table)) (range_with_len 1 (l.mask - 1)) ≡ Ok tt
