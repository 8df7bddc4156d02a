use Rattle.std.proofs.Common.{◌≡◌, ◌^◌, ◌<◌, ℕ, List, map, sym, subst, arith}
use Rattle.std.proofs.lemmas.List.{length-map}
use Rattle.loom_types.specs.LayoutTree.{step_of}
use Rattle.loom_topology.specs.Table.{cell_at}
use Rattle.loom_layout.specs.Layout.{Laying, hang, stepped, next_point}
use Rattle.loom_layout.specs.Walk.{laying_of, left_of}
use Rattle.loom_layout.proofs.Laying.{GoesOn, goes_on_first, can_part, less, less_rest, goes_on_split, goes_over, fewer, next_in_room, pushed}
use Rattle.loom_layout.proofs.walk.Walk.+lay.Goals as goal

pub loop-bit-init : goal.loop-bit-init
loop-bit-init t c =
    goes_on_first c.args.topology.now (map (λ x. x.0) c.args.terminals.now) (cell_at c.args.table.now)
    c.args.bundle.mask c.args.bundle.node.0 c.args.bundle.point (laying_of c.args.self.now) c.requires.can

pub rule_at-requires-clause-mask : goal.rule_at-requires-clause-mask
rule_at-requires-clause-mask t c = c.loop-bit.invariant.can.range

pub rule_at-requires-clause-node : goal.rule_at-requires-clause-node
rule_at-requires-clause-node t c = c.loop-bit.invariant.can.node

pub rule_at-requires-clause-cost : goal.rule_at-requires-clause-cost
rule_at-requires-clause-cost t c = c.loop-bit.invariant.can.cost

pub index_mut-requires : goal.index_mut-requires
index_mut-requires t c = omega (arith, c.loop-bit.invariant.can.places, c.in-Hang.ensures.0, c.loop-bit.self.points.ok.0)

pub returns-in-Hang : goal.returns-in-Hang
returns-in-Hang t c = c.loop-bit.invariant.whole _ (hang c.in-Hang.bit c.in-Hang.ensures)

pub lay-requires : goal.lay-requires
lay-requires t c =
    let topology = c.args.topology.now in
    let least = cell_at c.args.table.now in
    let b = c.loop-bit.bundle in
    let falls : left_of topology least c.in-Split.mask b.node.0 < t =
    omega (
      arith,
      c.decreases,
      c.loop-bit.invariant.no_more,
      less topology (map (λ x. x.0) c.args.terminals.now) least c.requires.sound c.args.bundle.mask c.args.bundle.node.0 c.args.bundle.point
          (laying_of c.args.self.now) b.mask b.node.0 b.point (laying_of c.loop-bit.self) c.loop-bit.invariant
          c.in-Split.mask c.in-Split.ensures.0 c.in-Split.ensures.1,
    ) in (
      falls,
      (
        c.requires.sound,
        (
          c.requires.in_range,
          (
            c.requires.few,
            (
              c.requires.table,
              can_part topology (map (λ x. x.0) c.args.terminals.now) least c.requires.sound c.args.bundle.mask
                  c.args.bundle.node.0 c.args.bundle.point (laying_of c.args.self.now) b.mask b.node.0 b.point
                  (laying_of c.loop-bit.self) c.loop-bit.invariant c.in-Split.mask c.in-Split.ensures.0 c.in-Split.ensures.1,
            ),
          ),
        ),
      ),
    )

pub loop-bit-smaller-in-Split : goal.loop-bit-smaller-in-Split
loop-bit-smaller-in-Split t c =
    let b = c.loop-bit.bundle in
    less_rest c.args.topology.now (map (λ x. x.0) c.args.terminals.now) (cell_at c.args.table.now) c.requires.sound
    c.args.bundle.mask c.args.bundle.node.0 c.args.bundle.point (laying_of c.args.self.now) b.mask b.node.0 b.point
    (laying_of c.loop-bit.self) c.loop-bit.invariant c.in-Split.mask c.in-Split.ensures.0 c.in-Split.ensures.1

pub loop-bit-preserved-in-Split : goal.loop-bit-preserved-in-Split
loop-bit-preserved-in-Split t c =
    let b = c.loop-bit.bundle in
    goes_on_split c.args.topology.now (map (λ x. x.0) c.args.terminals.now) (cell_at c.args.table.now) c.requires.sound
    c.args.bundle.mask c.args.bundle.node.0 c.args.bundle.point (laying_of c.args.self.now) b.mask b.node.0 b.point
    (laying_of c.loop-bit.self) c.loop-bit.invariant c.in-Split.mask c.in-Split.ensures.0 c.in-Split.ensures.1
    (laying_of c.lay.new.self) c.in_ok-lay-in-Split.ensures

pub overflow_cast-bundle : goal.overflow_cast-bundle
overflow_cast-bundle t c =
    let b = c.loop-bit.bundle in
    let room : next_point (laying_of c.loop-bit.self) < 2 ^ 32 =
    next_in_room c.args.topology.now (map (λ x. x.0) c.args.terminals.now) (cell_at c.args.table.now) c.requires.sound
    c.args.bundle.mask c.args.bundle.node.0 c.args.bundle.point (laying_of c.args.self.now) b.mask b.node.0 b.point
    (laying_of c.loop-bit.self) c.loop-bit.invariant c.in-Over.segment.0 c.in-Over.node.0
    c.in-Over.ensures.0 c.in-Over.ensures.1 c.in-Over.ensures.2 in
    omega (
      arith,
      c.len.ensures,
      c.in_ok-push-in-Over.ensures.len,
      c.loop-bit.self.steps.ok.0,
      length-map c.loop-bit.self.steps.items step_of,
      room,
    )

pub loop-bit-smaller : goal.loop-bit-smaller
loop-bit-smaller t c =
    let b = c.loop-bit.bundle in
    fewer c.args.topology.now (map (λ x. x.0) c.args.terminals.now) (cell_at c.args.table.now) c.requires.sound
    c.args.bundle.mask c.args.bundle.node.0 c.args.bundle.point (laying_of c.args.self.now) b.mask b.node.0 b.point
    (laying_of c.loop-bit.self) c.loop-bit.invariant c.in-Over.segment.0 c.in-Over.node.0
    c.in-Over.ensures.0 c.in-Over.ensures.1 c.in-Over.ensures.2

pub loop-bit-preserved : goal.loop-bit-preserved
loop-bit-preserved t c =
    let b = c.loop-bit.bundle in
    let topology = c.args.topology.now in
    let terminals : List ℕ = map (λ x. x.0) c.args.terminals.now in
    let least = cell_at c.args.table.now in
    let end : next_point (laying_of c.loop-bit.self) ≡ c.len.result =
    omega (
      arith,
      c.len.ensures,
      c.in_ok-push-in-Over.ensures.len,
      c.loop-bit.self.steps.ok.0,
      length-map c.loop-bit.self.steps.items step_of,
    ) in
    let now : stepped (laying_of c.loop-bit.self) b.point c.in-Over.segment.0
    ≡ laying_of (record { steps = c.push.new.self; points = c.loop-bit.self.points }) =
    sym (pushed c.loop-bit.self.steps.items c.push.new.self.items c.loop-bit.self.points.items b.point c.in-Over.segment
    c.in_ok-push-in-Over.ensures.items) in
    subst (λ (q : ℕ). GoesOn topology terminals least c.args.bundle.mask c.args.bundle.node.0 c.args.bundle.point
    (laying_of c.args.self.now) b.mask c.in-Over.node.0 q (laying_of (record { steps = c.push.new.self; points = c.loop-bit.self.points }))) end
    (subst (λ (l : Laying). GoesOn topology terminals least c.args.bundle.mask c.args.bundle.node.0 c.args.bundle.point
    (laying_of c.args.self.now) b.mask c.in-Over.node.0 (next_point (laying_of c.loop-bit.self)) l) now
    (goes_over topology terminals least c.requires.sound
    c.args.bundle.mask c.args.bundle.node.0 c.args.bundle.point (laying_of c.args.self.now) b.mask b.node.0 b.point
    (laying_of c.loop-bit.self) c.loop-bit.invariant c.in-Over.segment.0 c.in-Over.node.0
    c.in-Over.ensures.0 c.in-Over.ensures.1 c.in-Over.ensures.2))
