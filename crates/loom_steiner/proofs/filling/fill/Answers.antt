use Rattle.std.proofs.Common.{ℕ, List, ◌++◌, ◌≡◌, ◌+◌, ◌-◌, ◌*◌, ◌%◌, ◌^◌, ◌<◌, length, sym, subst, ap, arith}
use Rattle.std.proofs.Math.Nat.{one-le-pow}
use Rattle.loom_steiner.specs.Begin.{IsRow}
use Rattle.loom_steiner.specs.Ground.{IsGround}
use Rattle.loom_steiner.specs.Filled.{IsFilled}
use Rattle.loom_steiner.proofs.Steps.{numbers_of, filled_next, bit_below, shifted, end_value, numbers_len, homes_in_range, home_of}
use Rattle.loom_steiner.proofs.Ends.{ends_whole, ends_least}
use Rattle.loom_steiner.proofs.filling.fill.Goals as goal

pub bounds-terminals-bit : goal.bounds-terminals-bit
bounds-terminals-bit c =
    let end = end_value (length c.args.terminals.now) c.requires.at_most in
    bit_below c.ilog2-bit.result c.loop-mask.mask (length c.args.terminals.now) c.ilog2-bit.ensures.power_le (omega (arith, c.loop-mask-test.true, end.0))

pub cavity_node-home-requires : goal.cavity_node-home-requires
cavity_node-home-requires c =
    let end = end_value (length c.args.terminals.now) c.requires.at_most in
    c.requires.in_range (c.ilog2-bit.result + 1) _
    (bit_below c.ilog2-bit.result c.loop-mask.mask (length c.args.terminals.now) c.ilog2-bit.ensures.power_le (omega (arith, c.loop-mask-test.true, end.0)))

pub loop-mask-preserved : goal.loop-mask-preserved
loop-mask-preserved c =
    let topology = c.args.topology.now in
    let terminals = c.args.terminals.now in
    let numbers = numbers_of terminals in
    let bit = c.ilog2-bit.result in
    let mask = c.loop-mask.mask in
    let ways = c.in_ok-ground.ground.ways.now in
    let branches = c.in_ok-ground.ground.branches.now in
    let cells = c.loop-mask.cells.items in
    let row = c.fill_row.new.row in
    let sound = c.node_count-nodes.ensures.sound in
    let end = end_value (length terminals) c.requires.at_most in
    let count = numbers_len terminals in
    let last : mask < 2 ^ (length terminals - 1) = omega (arith, c.loop-mask-test.true, end.0) in
    let last_number : mask < 2 ^ (length numbers - 1) = subst (λ (k : ℕ). mask < 2 ^ (k - 1)) (sym count) last in
    let small : mask < 2 ^ 32 = omega (arith, last, end.1) in
    let high = shifted bit mask c.ilog2-bit.ensures.power_le small in
    let range = bit_below bit mask (length terminals) c.ilog2-bit.ensures.power_le last in
    let ground : IsGround topology ways branches = c.in_ok-ground.ensures in
    let home = home_of topology terminals bit c.cavity_node-home.result.0 _ range c.cavity_node-home.ensures.node in
    let is_row = subst (λ (n : ℕ). IsRow ways cells branches n (1 * 2 ^ bit % 2 ^ 32) (mask - 1 * 2 ^ bit % 2 ^ 32) c.cavity_node-home.result.0 row)
    c.loop-mask.invariant.1
    (subst (λ (l : List ℕ). IsRow ways l branches (length c.loop-mask.row) (1 * 2 ^ bit % 2 ^ 32) (mask - 1 * 2 ^ bit % 2 ^ 32) c.cavity_node-home.result.0 row)
    c.deref.ensures.value c.in_ok-fill_row.ensures.row) in
    let grown : c.extend_from_slice.new.self.items ≡ cells ++ row = c.in_ok-extend_from_slice.ensures.items in (
      subst (λ (l : List ℕ). IsFilled topology numbers (mask + 1) l) (sym grown)
          (filled_next topology ways branches numbers cells row bit mask c.cavity_node-home.result.0 (1 * 2 ^ bit % 2 ^ 32) ground sound sound.few_nodes
          (omega (arith, count, c.requires.at_most)) c.ilog2-bit.ensures.power_le c.ilog2-bit.ensures.next_power_gt last_number high home
          (homes_in_range topology terminals sound c.requires.in_range) c.loop-mask.invariant.0 is_row),
      omega (arith, c.fill_row.auto.row, c.loop-mask.invariant.1),
      c.in_ok-fill_row.ensures.idle,
    )

pub of-requires : goal.of-requires
of-requires c =
    let end = end_value (length c.args.terminals.now) c.requires.at_most in
    ends_whole c.args.topology.now c.args.terminals.now c.in_ok-ground.ground.branches.now c.loop-mask.cells.items c.loop-mask.mask
    (1 * 2 ^ (length c.args.terminals.now - 1) % 2 ^ 32 - 1) c.node_count-nodes.result c.into_bump_slice.result.now
    (record {
      sound = c.node_count-nodes.ensures.sound;
      few_terminals = c.requires.at_most;
      value = c.in_ok-ground.ensures.branch;
      cheap = c.in_ok-ground.ensures.cheap;
      filled = c.loop-mask.invariant.0;
      last = omega (arith, c.loop-mask-test.false, c.loop-mask.auto.mask-end, end.0, one-le-pow (length c.args.terminals.now - 1) 2 (omega arith));
      masks_are = ap (λ (e : ℕ). e - 1) end.0;
      nodes_are = c.node_count-nodes.ensures.count;
      slice_is = c.into_bump_slice.ensures;
    })

pub returns : goal.returns
returns c =
    let end = end_value (length c.args.terminals.now) c.requires.at_most in
    rw c.of.ensures (ends_least c.args.topology.now c.args.terminals.now c.in_ok-ground.ground.branches.now c.loop-mask.cells.items c.loop-mask.mask
    (1 * 2 ^ (length c.args.terminals.now - 1) % 2 ^ 32 - 1) c.node_count-nodes.result c.into_bump_slice.result.now
    (record {
      sound = c.node_count-nodes.ensures.sound;
      few_terminals = c.requires.at_most;
      value = c.in_ok-ground.ensures.branch;
      cheap = c.in_ok-ground.ensures.cheap;
      filled = c.loop-mask.invariant.0;
      last = omega (arith, c.loop-mask-test.false, c.loop-mask.auto.mask-end, end.0, one-le-pow (length c.args.terminals.now - 1) 2 (omega arith));
      masks_are = ap (λ (e : ℕ). e - 1) end.0;
      nodes_are = c.node_count-nodes.ensures.count;
      slice_is = c.into_bump_slice.ensures;
    }))
