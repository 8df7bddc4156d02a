use Rattle.std.proofs.Common.{inl, inr, refl}
use Rattle.loom_top.specs.Replies.{IsReply}
use Rattle.loom_top.specs.declared.status.Status.TheVariants.{ReadFault, NoMemory}
use Rattle.loom_top.proofs.Documents.{AcceptingLaws, reply_accepts, reply_says_yes, own_accepts, own_says_yes}
use Rattle.loom_top.proofs.Written.{writes_reply_to, writes_nothing_of, done_unless, written_is_loud, done_is_no_refusal, denial_is_no_refusal}
use Rattle.loom_top.proofs.program.with_document.Goals as goal

pub returns-in-Ok-clause-writes : goal.returns-in-Ok-clause-writes
returns-in-Ok-clause-writes g c =
    writes_reply_to (IsReply _ c.args.job) _ _ _ c.written.result c.in-Ok.reply.kind c.in-Ok.reply.line c.in-Ok.ensures.reply
    c.written.ensures.whole (λ e. (c.written.ensures.part e).1)

pub returns-in-Ok-clause-understood : goal.returns-in-Ok-clause-understood
returns-in-Ok-clause-understood g c = λ usage. written_is_loud c.written.result c.in-Ok.reply.kind _ c.written.ensures.whole (inl usage)

pub returns-in-Ok-clause-at_end : goal.returns-in-Ok-clause-at_end
returns-in-Ok-clause-at_end g c = λ done.
    c.in-Ok.ensures.at_end (done_is_no_refusal c.written.result c.in-Ok.reply.kind _ c.written.ensures.whole done)

pub returns-in-Ok-clause-read_fault : goal.returns-in-Ok-clause-read_fault
returns-in-Ok-clause-read_fault g c = λ fault.
    absurd (written_is_loud c.written.result c.in-Ok.reply.kind _ c.written.ensures.whole (inr (inl fault)))

pub returns-in-Ok-clause-unwritten : goal.returns-in-Ok-clause-unwritten
returns-in-Ok-clause-unwritten g c = λ silent.
    absurd (written_is_loud c.written.result c.in-Ok.reply.kind _ c.written.ensures.whole silent)

pub returns-in-Ok-clause-no_at_end : goal.returns-in-Ok-clause-no_at_end
returns-in-Ok-clause-no_at_end g c = λ denied.
    c.in-Ok.ensures.at_end (denial_is_no_refusal c.written.result c.in-Ok.reply.kind _ c.written.ensures.whole denied)

pub returns-in-Ok-clause-complete : goal.returns-in-Ok-clause-complete
returns-in-Ok-clause-complete g c = λ input left accepted read wrote.
    let laws : AcceptingLaws = record {
      planned = c.plan_excludes_stops.ensures;
      fails = c.passing_is_yes.ensures.fails;
      stops = c.passing_is_yes.ensures.stops;
    } in
    inl (done_unless c.written.result c.in-Ok.reply.kind (c.written.ensures.whole (λ cut. wrote (c.written.ensures.part cut).0)).0
    (reply_says_yes laws _ c.args.job _ input c.in-Ok.reply.line c.in-Ok.reply.kind left accepted c.in-Ok.ensures.reply)
    (reply_accepts laws _ c.args.job _ input c.in-Ok.reply.line c.in-Ok.reply.kind left accepted c.in-Ok.ensures.reply))

pub returns-in-Ok-clause-own : goal.returns-in-Ok-clause-own
returns-in-Ok-clause-own g c = λ input checks left own read wrote.
    inl (done_unless c.written.result c.in-Ok.reply.kind (c.written.ensures.whole (λ cut. wrote (c.written.ensures.part cut).0)).0
    (own_says_yes _ c.args.job _ input c.in-Ok.reply.line c.in-Ok.reply.kind checks left own c.in-Ok.ensures.reply)
    (own_accepts _ c.args.job _ input c.in-Ok.reply.line c.in-Ok.reply.kind checks left own c.in-Ok.ensures.reply))

pub returns-in-Err-NoMemory-clause-writes : goal.returns-in-Err-NoMemory-clause-writes
returns-in-Err-NoMemory-clause-writes g c = writes_nothing_of (IsReply _ c.args.job) _ _ _ NoMemory (inr (inr refl))

pub returns-in-Err-clause-writes : goal.returns-in-Err-clause-writes
returns-in-Err-clause-writes g c = writes_nothing_of (IsReply _ c.args.job) _ _ _ ReadFault (inr (inl refl))
