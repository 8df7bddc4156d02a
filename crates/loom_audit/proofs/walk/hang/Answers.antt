use Rattle.std.proofs.Common.{ap, ◌∙◌, arith}
use Rattle.loom_audit.specs.Threads.{newest_first, thread_of}
use Rattle.loom_audit.proofs.HungSteps.{newest_first-push, hung_there}
use Rattle.loom_audit.proofs.walk.hang.Goals as goal

pub returns : goal.returns
returns c =
    hung_there (λ s. newest_first s.items) c.args.stacks.now.items c.args.point c.index_mut.result.now c.push.new.self (thread_of c.args.thread)
    (omega (arith, c.requires, c.args.stacks.now.ok.0)) c.index_mut.ensures.value
    (ap newest_first c.in_ok-push.ensures.items ∙ newest_first-push c.index_mut.result.now.items c.args.thread)
