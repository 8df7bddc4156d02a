use Rattle.std.proofs.Common.{inl, inr, refl}
use Rattle.loom_top.specs.Trials.{IsTrialReply}
use Rattle.loom_top.specs.declared.status.Status.TheVariants.{NoMemory}
use Rattle.loom_top.proofs.TrialReplies.{summary_accepts, trial_is_no_check}
use Rattle.loom_top.proofs.Written.{writes_reply, writes_nothing, done_unless, written_is_loud}
use Rattle.loom_top.proofs.program.with_trial.Goals as goal

pub returns-in-Ok-clause-writes : goal.returns-in-Ok-clause-writes
returns-in-Ok-clause-writes g c =
    writes_reply (IsTrialReply c.args.trial) _ _ c.written.result c.in-Ok.reply.kind c.in-Ok.reply.line c.in-Ok.ensures
    c.written.ensures.whole (λ e. (c.written.ensures.part e).1)

pub returns-in-Ok-clause-understood : goal.returns-in-Ok-clause-understood
returns-in-Ok-clause-understood g c = λ usage. written_is_loud c.written.result c.in-Ok.reply.kind _ c.written.ensures.whole (inl usage)

pub returns-in-Ok-clause-no_read : goal.returns-in-Ok-clause-no_read
returns-in-Ok-clause-no_read g c = λ fault. written_is_loud c.written.result c.in-Ok.reply.kind _ c.written.ensures.whole (inr (inl fault))

pub returns-in-Ok-clause-unwritten : goal.returns-in-Ok-clause-unwritten
returns-in-Ok-clause-unwritten g c = λ silent.
    absurd (written_is_loud c.written.result c.in-Ok.reply.kind _ c.written.ensures.whole silent)

pub returns-in-Ok-clause-complete : goal.returns-in-Ok-clause-complete
returns-in-Ok-clause-complete g c = λ has wrote.
    inl (done_unless c.written.result c.in-Ok.reply.kind (c.written.ensures.whole (λ cut. wrote (c.written.ensures.part cut).0)).0
    (trial_is_no_check c.args.trial c.in-Ok.reply.line c.in-Ok.reply.kind c.in-Ok.ensures)
    (summary_accepts c.plan_excludes_stops.ensures c.args.trial c.in-Ok.reply.line c.in-Ok.reply.kind has c.in-Ok.ensures))

pub returns-in-Err-clause-writes : goal.returns-in-Err-clause-writes
returns-in-Err-clause-writes g c = writes_nothing (IsTrialReply c.args.trial) _ _ NoMemory (inr (inr refl))
