use Rattle.std.proofs.Common.{◌+◌, ◌<◌, length, slice_index, arith}
use Rattle.std.specs.BinaryHeap.{heap_items}
use Rattle.loom_topology.specs.Ways.{way_at, no_way}
use Rattle.loom_steiner.proofs.Rows.{sum-set}
use Rattle.loom_steiner.proofs.Relaxing.{Relaxes-keep, Relaxes-push}
use Rattle.loom_steiner.proofs.worklist.relax.Goals.{then-through-row+in_ok-push, else-through-row}
use Rattle.loom_steiner.proofs.worklist.relax.Goals as goal

pub loop-way-preserved : goal.loop-way-preserved
loop-way-preserved c =
    let from = c.args.from.now in
    let k = c.loop-way.way-index in
    let row = c.args.row.now in
    let waiting = heap_items c.args.worklist.now in
    let more = heap_items c.loop-way.worklist in
    let cost = slice_index row c.args.node in
    let way = way_at from k in
    let relaxes = c.loop-way.invariant.0 in
    let work = c.loop-way.invariant.1 in
    elim c.if-through-row.branch [
      | then-through-row+in_ok-push w ↦
          (let in_new : way.to.0 < length c.loop-way.row = omega (arith, (c.requires.range k no_way c.loop-way-test.true).1, c.loop-way.auto.row) in
          let pushed = Relaxes-push from c.args.node cost k row c.loop-way.row waiting more (heap_items w.push.new.self)
          c.requires.node c.loop-way-test.true c.requires.range c.requires.capped w.if-through-row.true
          w.in_ok-push.ensures.permutation relaxes in
          let e = sum-set c.loop-way.row way.to.0 (cost + way.price) in_new in
          rw (w.row-is, w.worklist-is) (pushed, omega (arith, e, w.in_ok-push.ensures.len, w.if-through-row.true)))
      | else-through-row w ↦
          rw (w.row-is, w.worklist-is)
          (Relaxes-keep from c.args.node cost k row c.loop-way.row waiting more w.if-through-row.false relaxes, work)
    ]
