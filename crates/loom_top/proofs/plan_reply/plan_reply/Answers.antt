use Rattle.std.proofs.Common.{ap, sym, refl}
use Rattle.loom_session.specs.Session.{SessionView}
use Rattle.loom_top.proofs.PlanReplies.{new_is_fresh, replies_to_it}
use Rattle.loom_top.proofs.plan_reply.plan_reply.Goals as goal

pub edited_reply-requires-clause-fresh : goal.edited_reply-requires-clause-fresh
edited_reply-requires-clause-fresh g c = new_is_fresh c.new-session.result _ c.new-session.ensures

pub returns : goal.returns
returns g c =
    replies_to_it _ c.args.document.version c.new-session.result.changes.draft c.as_slice.result.now c.as_slice-2.result.now c.args.document
    c.edited_reply.result
    (record {
      version_is = refl;
      draft_is = sym (ap (λ (s : SessionView). s.changes.draft) c.new-session.ensures);
      entries_are = sym c.as_slice.ensures;
      limits_are = sym c.as_slice-2.ensures;
    })
    c.edited_reply.ensures
