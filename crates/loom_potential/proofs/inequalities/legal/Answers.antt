use Rattle.std.proofs.Common.{ℕ, ◌≡◌, ◌+◌, ◌-◌, ◌^◌, ◌<◌, ◌≤◌, List, Ok, length, map, sym, ap, subst, arith}
use Rattle.std.specs.List.{range_with_len}
use Rattle.std.proofs.lemmas.List.{length-map}
use Rattle.std.proofs.lemmas.Result.{err_from_is_err_and}
use Rattle.loom_topology.specs.Table.{cell_at}
use Rattle.loom_base.specs.First.{every}
use Rattle.loom_potential.specs.FirstBreak.{mask_check, first_break}
use Rattle.loom_potential.proofs.Checks.{every-range_next, every-range_stops}
use Rattle.loom_potential.proofs.Legality.{ok_is_legal, ok_is_below}
use Rattle.loom_potential.proofs.inequalities.legal.Goals as goal

-- a mask that is still to come
within : {X : Type 0} (f : X → ℕ) (terminals : List X) (mask end masks : ℕ) → mask < end + 1 → end ≡ masks
    → masks ≡ 2 ^ (length terminals - 1) - 1 → 1 ≤ mask → mask - 1 < 2 ^ (length (map f terminals) - 1) - 1
within f terminals mask end masks before is count from =
    let same : 2 ^ (length (map f terminals) - 1) - 1 ≡ 2 ^ (length terminals - 1) - 1 =
    ap (λ n. 2 ^ (n - 1) - 1) (length-map terminals f) in
    rw same (omega arith)

-- all masks have come
all : {X : Type 0} (f : X → ℕ) (terminals : List X) (mask end masks : ℕ) → end + 1 ≤ mask → mask ≤ end + 1 → end ≡ masks
    → masks ≡ 2 ^ (length terminals - 1) - 1 → mask - 1 ≡ 2 ^ (length (map f terminals) - 1) - 1
all f terminals mask end masks past low is count =
    let same : 2 ^ (length (map f terminals) - 1) - 1 ≡ 2 ^ (length terminals - 1) - 1 =
    ap (λ n. 2 ^ (n - 1) - 1) (length-map terminals f) in
    rw same (omega arith)

stopped : (c : goal.After-from_residual)
    → c.from_residual.result ≡ first_break c.args.topology.now (map (λ t. t.0) c.args.terminals.now) (cell_at c.args.table.now)
unfolding first_break
stopped c =
    let p = err_from_is_err_and c.from_residual.result c.from_residual.ensures.1 in
    rw (p.1, p.2)
    (sym (every-range_stops (mask_check c.args.topology.now (map (λ t. t.0) c.args.terminals.now) (cell_at c.args.table.now))
    1 (c.loop-mask.mask - 1) (2 ^ (length (map (λ t. t.0) c.args.terminals.now) - 1) - 1) c.loop-mask.mask _
    (omega (arith, c.loop-mask.auto.mask))
    (within (λ t. t.0) c.args.terminals.now c.loop-mask.mask c.masks-mask-end.result c.args.table.now.masks c.loop-mask-test.true
    c.masks-mask-end.ensures.value c.requires.masks c.loop-mask.auto.mask)
    c.loop-mask.invariant (sym c.in_err-test_mask.ensures)))

pub returns-in_err-test_mask-clause-first : goal.returns-in_err-test_mask-clause-first
returns-in_err-test_mask-clause-first c = stopped c

pub returns-in_err-test_mask-clause-legal : goal.returns-in_err-test_mask-clause-legal
returns-in_err-test_mask-clause-legal c =
    ok_is_legal c.args.topology.now (λ t. t.0) c.args.terminals.now (cell_at c.args.table.now) c.node_count-nodes.ensures.sound
    c.requires.few c.requires.in_range c.from_residual.result (stopped c)

pub loop-mask-preserved : goal.loop-mask-preserved
loop-mask-preserved c =
    let next : c.loop-mask.mask - 1 + 1 ≡ c.loop-mask.mask + 1 - 1 = omega (arith, c.loop-mask.auto.mask) in
    subst (λ n. every (mask_check c.args.topology.now (map (λ t. t.0) c.args.terminals.now) (cell_at c.args.table.now)) (range_with_len 1 n) ≡ Ok tt)
    next
    (every-range_next (mask_check c.args.topology.now (map (λ t. t.0) c.args.terminals.now) (cell_at c.args.table.now))
    1 (c.loop-mask.mask - 1) c.loop-mask.mask (omega (arith, c.loop-mask.auto.mask)) c.loop-mask.invariant
    (sym c.in_ok-test_mask.ensures))

passed : (c : goal.After-loop-mask)
    → Ok tt ≡ first_break c.args.topology.now (map (λ t. t.0) c.args.terminals.now) (cell_at c.args.table.now)
unfolding first_break
passed c =
    sym (subst (λ n. every (mask_check c.args.topology.now (map (λ t. t.0) c.args.terminals.now) (cell_at c.args.table.now))
    (range_with_len 1 n) ≡ Ok tt)
    (all (λ t. t.0) c.args.terminals.now c.loop-mask.mask c.masks-mask-end.result c.args.table.now.masks c.loop-mask-test.false
    (omega (arith, c.loop-mask.auto.mask-end)) c.masks-mask-end.ensures.value c.requires.masks) c.loop-mask.invariant)

pub returns-clause-first : goal.returns-clause-first
returns-clause-first c = passed c

pub returns-clause-legal : goal.returns-clause-legal
returns-clause-legal c =
    ok_is_legal c.args.topology.now (λ t. t.0) c.args.terminals.now (cell_at c.args.table.now) c.node_count-nodes.ensures.sound
    c.requires.few c.requires.in_range (Ok tt) (passed c)

pub returns-clause-below : goal.returns-clause-below
returns-clause-below c =
    ok_is_below c.args.topology.now (λ t. t.0) c.args.terminals.now (cell_at c.args.table.now) c.node_count-nodes.ensures.sound
    c.requires.few c.requires.in_range (passed c)
