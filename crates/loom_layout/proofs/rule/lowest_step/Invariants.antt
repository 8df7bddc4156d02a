use Rattle.std.proofs.Common.{◌≡◌, ℕ, ◌<◌, map, get_or}
use Rattle.loom_topology.specs.Topology.{open_at}
use Rattle.loom_topology.specs.Table.{cell_at}
use Rattle.loom_topology.specs.Ties.{StepsTo}
use Rattle.loom_layout.proofs.rule.lowest_step.Given as goal

abbrev pub invariant-loop-segment : goal.invariant-loop-segment
invariant-loop-segment l = record {
  listed : map (λ s. s.0) l.segment-items ≡ open_at l.topology l.node.0;
  none : (k : ℕ) → k < l.segment-index → (u : ℕ)
      → StepsTo l.topology (cell_at l.table) l.mask l.node.0 (get_or l.segment-items k (record { 0 = 0 })).0 u → ⊥;
}
