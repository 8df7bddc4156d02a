use Rattle.std.proofs.Common.{◌++◌, ap, ◌∙◌}
use Rattle.loom_topology.specs.Legal.{chosen}
use Rattle.loom_layout.proofs.Choosing.{take_one, leave_one, all_taken}
use Rattle.loom_layout.proofs.set_layout.chosen_points.Goals as goal
use Rattle.loom_layout.proofs.set_layout.chosen_points.Goals.{then-left-eq1+in_ok-push, else-left-eq1}

pub loop-point-init : goal.loop-point-init
loop-point-init c = ap (λ list. list ++ chosen c.args.points.now c.args.mask) c.new-list.ensures

pub loop-point-preserved : goal.loop-point-preserved
loop-point-preserved c =
    elim c.if-left-eq1.branch [
      | then-left-eq1+in_ok-push w ↦
          take_one c.args.points.now c.loop-point.point-index c.loop-point.left c.loop-point-test.true c.args.mask
          c.loop-point.list c.if-left-eq1.list w.if-left-eq1.true (w.list-is ∙ w.in_ok-push.ensures.ok) c.loop-point.invariant
      | else-left-eq1 w ↦
          leave_one c.args.points.now c.loop-point.point-index c.loop-point.left c.loop-point-test.true c.args.mask
          c.loop-point.list c.if-left-eq1.list w.if-left-eq1.false w.list-is c.loop-point.invariant
    ]

pub returns : goal.returns
returns c =
    all_taken c.args.points.now c.loop-point.list c.loop-point.point-index c.loop-point.left c.args.mask
    c.loop-point-test.false c.loop-point.invariant
