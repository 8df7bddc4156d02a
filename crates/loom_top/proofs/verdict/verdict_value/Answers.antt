use Rattle.std.proofs.Common.{◌≡◌, refl}
use Rattle.serde_json.specs.View.{view}
use Rattle.serde_json.specs.declared.value.Value.TheVariants.{Object}
use Rattle.serde_json.proofs.Views.{view-Object}
use Rattle.loom_top.specs.Verdicts.{verdict_shown}
use Rattle.loom_top.proofs.VerdictReplies.{plain_verdict}
use Rattle.loom_top.proofs.verdict.verdict_value.Goals as goal

pub returns-clause-plain : goal.returns-clause-plain
returns-clause-plain c =
    let shown : view (Object c.in_ok-members-2.members) ≡ verdict_shown c.args.verdict =
    rw (
      view-Object c.in_ok-members-2.members,
      c.in_ok-members-2.ensures,
      c.in_ok-members.ensures,
      c.in_ok-answer.ensures,
      c.from.ensures,
      c.new.ensures.empty,
    ) refl in
    plain_verdict (view (Object c.in_ok-members-2.members)) c.args.verdict shown
