use Rattle.std.proofs.Common.{ℕ, refl, arith}
use Rattle.std.proofs.lemmas.List.{map-append}
use Rattle.std.proofs.lemmas.List.FromFn.{map-range_with_len_more}
use Rattle.loom_topology.specs.Table.{cell_at}
use Rattle.loom_answer.specs.Plans.{cell_shown}
use Rattle.loom_answer.proofs.plans.mask_value.Goals as goal

pub loop-node-preserved : goal.loop-node-preserved
loop-node-preserved c =
    let more = map-range_with_len_more (λ (v : ℕ). cell_shown (cell_at c.args.table.now c.args.mask v)) 0 c.loop-node.node c.loop-node.node (omega arith) in
    rw (c.in_ok-push.ensures.items, map-append, c.loop-node.invariant, more, c.cell_value.ensures, c.cell.ensures.value) refl
