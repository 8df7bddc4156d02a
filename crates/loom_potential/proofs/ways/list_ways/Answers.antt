use Rattle.std.proofs.Common.{◌≡◌, length, take, ap, ◌∙◌, arith}
use Rattle.std.proofs.lemmas.List.{take_more_set}
use Rattle.loom_topology.specs.Ways.{way_from}
use Rattle.loom_potential.proofs.Listed.{listed_more, listed_skip, listed_ways}
use Rattle.loom_potential.proofs.ways.list_ways.Goals.{then-marks-number, else-marks-number}
use Rattle.loom_potential.proofs.ways.list_ways.Goals as goal

pub loop-number-preserved : goal.loop-number-preserved
loop-number-preserved c =
    let topology = c.args.topology.now in
    let number = c.loop-number.number in
    let before = take c.loop-number.count c.loop-number.ways in
    elim c.if-marks-number.branch [
      | then-marks-number w ↦
          rw (
            w.count-is,
            w.ways-is,
            take_more_set c.loop-number.ways c.loop-number.count w.way_from.result
                (omega (arith, c.loop-number.invariant.few, c.loop-number-test.true, c.segment_count-number-end.ensures.count, c.requires.room, c.loop-number.auto.ways)),
          )
          (record {
            few = omega (arith, c.loop-number.invariant.few);
            listed = listed_more topology c.args.marks.now number before w.way_from.result w.if-marks-number.true
                (w.way_from.ensures.way ∙ ap (λ v. way_from topology v number) w.ends.ensures.from) c.loop-number.invariant.listed;
          })
      | else-marks-number w ↦
          rw (w.count-is, w.ways-is)
          (record {
            few = omega (arith, c.loop-number.invariant.few);
            listed = listed_skip topology c.args.marks.now number before w.if-marks-number.false c.loop-number.invariant.listed;
          })
    ]

pub returns-clause-ways : goal.returns-clause-ways
returns-clause-ways c =
    let all : c.loop-number.number ≡ length c.args.topology.now.segments =
    omega (arith, c.loop-number-test.false, c.segment_count-number-end.ensures.count, c.loop-number.auto.number-end) in
    listed_ways c.args.topology.now c.args.marks.now c.loop-number.number (take c.loop-number.count c.loop-number.ways) all c.requires.marks
    c.loop-number.invariant.listed
