use Rattle.std.proofs.Common.{arith, refl, ◌∙◌, ◌<◌, length, take, drop, ◌++◌, length-append}
use Rattle.std.proofs.lemmas.List.{length-take}
use Rattle.loom_base.proofs.StreamLemmas.{rose_since, gathered, ended, taken_with, taken_before}
use Rattle.loom_base.proofs.source.read_all.Goals as goal

pub returns-in_err-count-clause-fault : goal.returns-in_err-count-clause-fault
returns-in_err-count-clause-fault g c =
    let read = c.in_err-count.ensures in
    let before = c.reading.invariant in
    λ _. (
      rose_since _ _ _ before.steady (read.cause.failed refl),
      taken_before _ _ _ c.reading.bytes.items _ before.taken read.bytes (omega arith),
    )

pub returns-in_err-count-clause-at_most : goal.returns-in_err-count-clause-at_most
returns-in_err-count-clause-at_most g c =
    taken_before _ _ _ c.reading.bytes.items _ c.reading.invariant.taken c.in_err-count.ensures.bytes (omega arith)

pub returns-then-count-eq0-clause-all : goal.returns-then-count-eq0-clause-all
returns-then-count-eq0-clause-all g c =
    let read = c.in_ok-count.ensures in
    let before = c.reading.invariant in
    let room : 0 < length c.read.new.buf = omega (arith, c.read.auto.buf, length-take c.min-room.result c.reading.block) in
    ended _ _ _ c.reading.bytes.items c.read.new.buf c.from_vec.result c.in_ok-count.count _ before.taken read.bytes.0 c.if-count-eq0.true
    (read.bytes.1 c.if-count-eq0.true room) c.from_vec.ensures (omega arith)

pub returns-then-count-eq0-clause-at_most : goal.returns-then-count-eq0-clause-at_most
returns-then-count-eq0-clause-at_most g c =
    taken_with _ _ _ c.reading.bytes.items (take c.in_ok-count.count c.read.new.buf) _ c.reading.invariant.taken c.in_ok-count.ensures.bytes.0
    (omega (arith, c.in_ok-count.ensures.bound.0, c.in_ok-count.ensures.bound.1, c.read.auto.buf, length-take c.min-room.result c.reading.block))

pub reading-preserved : goal.reading-preserved
reading-preserved g c =
    let read = c.in_ok-count.ensures in
    let before = c.reading.invariant in
    record {
      room = omega (arith, c.read.auto.buf, length-take c.min-room.result c.reading.block, length-append c.read.new.buf (drop c.min-room.result c.reading.block));
      within = omega (
        arith,
        read.bound.0,
        c.read.auto.buf,
        length-take c.min-room.result c.reading.block,
        c.in_ok-extend_from_slice.ensures.len,
        length-take c.in_ok-count.count (c.read.new.buf ++ drop c.min-room.result c.reading.block),
      );
      taken = gathered _ _ _ c.reading.bytes.items c.read.new.buf (drop c.min-room.result c.reading.block) c.extend_from_slice.new.self.items c.in_ok-count.count before.taken read.bytes.0 read.bound.0 c.in_ok-extend_from_slice.ensures.items;
      steady = read.cause.counted ∙ before.steady;
    }

pub returns-in_err-extend_from_slice-clause-at_most :
    goal.returns-in_err-extend_from_slice-clause-at_most
returns-in_err-extend_from_slice-clause-at_most g c =
    taken_with _ _ _ c.reading.bytes.items (take c.in_ok-count.count c.read.new.buf) _ c.reading.invariant.taken c.in_ok-count.ensures.bytes.0
    (omega (arith, c.in_ok-count.ensures.bound.0, c.in_ok-count.ensures.bound.1, c.read.auto.buf, length-take c.min-room.result c.reading.block))
