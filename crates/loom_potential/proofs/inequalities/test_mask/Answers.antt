use Rattle.std.proofs.Common.{◌≡◌, Ok, length, map, refl, sym, subst, zero-add, arith}
use Rattle.std.specs.List.{range_with_len}
use Rattle.std.proofs.lemmas.Result.{err_from_is_err_and}
use Rattle.loom_topology.specs.Table.{cell_at}
use Rattle.loom_base.specs.First.{every}
use Rattle.loom_potential.specs.FirstBreak.{leaf_check, over_checks, split_checks, cell_check, mask_check}
use Rattle.loom_base.proofs.EachLemmas.{then_fails}
use Rattle.loom_potential.proofs.Checks.{all_pass, second_fails, third_fails, every-range_next, every-range_stops}
use Rattle.loom_potential.proofs.inequalities.test_mask.Goals as goal
use Rattle.loom_potential.proofs.inequalities.test_mask.Goals.{then-not-all_over+in_ok-test_segments, else-not-all_over, then-not-all_split+in_ok-test_splits, else-not-all_split}

pub returns-in_err-test_leaf : goal.returns-in_err-test_leaf
unfolding mask_check
returns-in_err-test_leaf c =
    let p = err_from_is_err_and c.from_residual.result c.from_residual.ensures.1 in
    rw (p.1, p.2)
    (sym (every-range_stops (cell_check c.args.topology.now (map (λ t. t.0) c.args.terminals.now) (cell_at c.args.table.now) c.args.mask)
    0 c.loop-node.node (length c.args.topology.now.nodes) c.loop-node.node _ (zero-add c.loop-node.node)
    (omega (arith, c.loop-node-test.true, c.node_count-node-end.ensures.count)) c.loop-node.invariant
    (then_fails (leaf_check c.args.topology.now (map (λ t. t.0) c.args.terminals.now) (cell_at c.args.table.now) c.args.mask c.loop-node.node)
    _ _ (sym c.in_err-test_leaf.ensures))))

pub returns-in_err-test_segments : goal.returns-in_err-test_segments
unfolding mask_check
returns-in_err-test_segments c =
    let p = err_from_is_err_and c.from_residual-in_err-test_segments.result c.from_residual-in_err-test_segments.ensures.1 in
    rw (p.1, p.2)
    (sym (every-range_stops (cell_check c.args.topology.now (map (λ t. t.0) c.args.terminals.now) (cell_at c.args.table.now) c.args.mask)
    0 c.loop-node.node (length c.args.topology.now.nodes) c.loop-node.node _ (zero-add c.loop-node.node)
    (omega (arith, c.loop-node-test.true, c.node_count-node-end.ensures.count)) c.loop-node.invariant
    (second_fails (leaf_check c.args.topology.now (map (λ t. t.0) c.args.terminals.now) (cell_at c.args.table.now) c.args.mask c.loop-node.node)
    (over_checks c.args.topology.now (cell_at c.args.table.now) c.args.mask c.loop-node.node) _ _
    (sym c.in_ok-test_leaf.ensures) (sym c.in_err-test_segments.ensures))))

pub returns-in_err-test_splits : goal.returns-in_err-test_splits
unfolding mask_check
returns-in_err-test_splits c =
    let overs : over_checks c.args.topology.now (cell_at c.args.table.now) c.args.mask c.loop-node.node ≡ Ok tt =
    elim c.if-not-all_over.branch [
      | then-not-all_over+in_ok-test_segments w ↦ sym w.in_ok-test_segments.ensures
      | else-not-all_over w ↦
          w.if-not-all_over.ensures.0 refl c.loop-node.node (omega (arith, c.loop-node-test.true, c.node_count-node-end.ensures.count))
    ] in
    let p = err_from_is_err_and c.from_residual-in_err-test_splits.result c.from_residual-in_err-test_splits.ensures.1 in
    rw (p.1, p.2)
    (sym (every-range_stops (cell_check c.args.topology.now (map (λ t. t.0) c.args.terminals.now) (cell_at c.args.table.now) c.args.mask)
    0 c.loop-node.node (length c.args.topology.now.nodes) c.loop-node.node _ (zero-add c.loop-node.node)
    (omega (arith, c.loop-node-test.true, c.node_count-node-end.ensures.count)) c.loop-node.invariant
    (third_fails (leaf_check c.args.topology.now (map (λ t. t.0) c.args.terminals.now) (cell_at c.args.table.now) c.args.mask c.loop-node.node)
    (over_checks c.args.topology.now (cell_at c.args.table.now) c.args.mask c.loop-node.node)
    (split_checks c.args.topology.now (cell_at c.args.table.now) c.args.mask c.loop-node.node) _
    (sym c.in_ok-test_leaf.ensures) overs (sym c.in_err-test_splits.ensures))))

pub loop-node-preserved : goal.loop-node-preserved
loop-node-preserved c =
    let overs : over_checks c.args.topology.now (cell_at c.args.table.now) c.args.mask c.loop-node.node ≡ Ok tt =
    elim c.if-not-all_over.branch [
      | then-not-all_over+in_ok-test_segments w ↦ sym w.in_ok-test_segments.ensures
      | else-not-all_over w ↦
          w.if-not-all_over.ensures.0 refl c.loop-node.node (omega (arith, c.loop-node-test.true, c.node_count-node-end.ensures.count))
    ] in
    let splits : split_checks c.args.topology.now (cell_at c.args.table.now) c.args.mask c.loop-node.node ≡ Ok tt =
    elim c.if-not-all_split.branch [
      | then-not-all_split+in_ok-test_splits w ↦ sym w.in_ok-test_splits.ensures
      | else-not-all_split w ↦
          w.if-not-all_split.ensures refl c.loop-node.node (omega (arith, c.loop-node-test.true, c.node_count-node-end.ensures.count))
    ] in
    every-range_next (cell_check c.args.topology.now (map (λ t. t.0) c.args.terminals.now) (cell_at c.args.table.now) c.args.mask)
    0 c.loop-node.node c.loop-node.node (zero-add c.loop-node.node) c.loop-node.invariant
    (all_pass (leaf_check c.args.topology.now (map (λ t. t.0) c.args.terminals.now) (cell_at c.args.table.now) c.args.mask c.loop-node.node)
    (over_checks c.args.topology.now (cell_at c.args.table.now) c.args.mask c.loop-node.node)
    (split_checks c.args.topology.now (cell_at c.args.table.now) c.args.mask c.loop-node.node)
    (sym c.in_ok-test_leaf.ensures) overs splits)

pub returns : goal.returns
unfolding mask_check
returns c =
    let end : c.loop-node.node ≡ length c.args.topology.now.nodes =
    omega (arith, c.loop-node-test.false, c.node_count-node-end.ensures.count, c.loop-node.auto.node-end) in
    sym (subst (λ n. every (cell_check c.args.topology.now (map (λ t. t.0) c.args.terminals.now) (cell_at c.args.table.now) c.args.mask)
    (range_with_len 0 n) ≡ Ok tt) end c.loop-node.invariant)
