use Rattle.std.proofs.Common.{map, ◌∙◌, arith}
use Rattle.loom_laid.proofs.LiveNets.{no_set, net-in_range, nets-then, nets-else, nets-all, nets-live, nets-in_range}
use Rattle.loom_laid.proofs.laying.live_nets.Goals as goal
use Rattle.loom_laid.proofs.laying.live_nets.Goals.{then-past-set+in_ok-push, else-past-set}

pub overflow_add-past : goal.overflow_add-past
overflow_add-past c =
    let within = net-in_range c.args.project.now c.args.sets.now c.loop-set.set-index no_set c.requires c.loop-set-test.true in
    omega (arith, within, c.net_count-few.ensures.count, c.net_count-few.ensures.few)

pub loop-set-preserved : goal.loop-set-preserved
loop-set-preserved c =
    elim c.if-past-set.branch [
      | then-past-set+in_ok-push w ↦
          nets-then c.args.project.now c.args.sets.now c.loop-set.set-index c.loop-set.past c.if-past-set.past c.loop-set.nets c.if-past-set.nets no_set
          c.requires c.loop-set.invariant c.loop-set-test.true (omega (arith, w.if-past-set.true)) (w.nets-is ∙ w.in_ok-push.ensures.ok) w.past-is
      | else-past-set w ↦
          nets-else c.args.project.now c.args.sets.now c.loop-set.set-index c.loop-set.past c.if-past-set.past c.loop-set.nets c.if-past-set.nets no_set
          c.requires c.loop-set.invariant c.loop-set-test.true (omega (arith, w.if-past-set.false)) w.nets-is w.past-is
    ]

pub returns-clause-nets : goal.returns-clause-nets
returns-clause-nets c =
    nets-all c.args.project.now c.args.sets.now c.loop-set.set-index c.loop-set.past (map (λ net. net.0) c.loop-set.nets) c.requires
    c.loop-set.invariant (omega (arith, c.loop-set-test.false))

pub returns-clause-in_range : goal.returns-clause-in_range
returns-clause-in_range c = nets-in_range c.args.project.now c.args.sets.now c.loop-set.set-index c.loop-set.past c.loop-set.nets c.loop-set.invariant

pub returns-clause-live : goal.returns-clause-live
returns-clause-live c = nets-live c.args.project.now c.args.sets.now c.loop-set.set-index c.loop-set.past c.loop-set.nets c.loop-set.invariant
