use Rattle.std.proofs.Common.{◌≡◌, ◌≢◌, sym, subst, ◌∙◌}
use Rattle.std.proofs.lemmas.Bool.{true≢false}
use Rattle.std.proofs.lemmas.Result.{IfOk-weaker}
use Rattle.loom_types.specs.declared.stop.PlanStop.TheVariants as stops
use Rattle.loom_answer.specs.Stops.{IsNameable, named_of}
use Rattle.loom_top.specs.Verdicts.{as_plan_stop}
use Rattle.loom_top.proofs.VerdictReplies.{check_stop-nameable}
use Rattle.loom_top.proofs.verdict_reply.named_check_stop.Goals as goal

pub named-requires : goal.named-requires
named-requires c =
    let other : as_plan_stop c.args.stop ≢ stops.NoMemory =
    λ e. true≢false (sym (c.is_want_of_memory.ensures.1 (c.plan_stop-stop.ensures ∙ e)) ∙ c.if-is_want_of_memory.false) in
    subst (IsNameable c.args.project.now) (sym c.plan_stop-stop.ensures)
    (check_stop-nameable c.args.project.now c.draft-draft.ensures.sound c.has_sound_topologies.ensures c.args.plan.now c.args.stop other c.requires)

pub returns-clause-nameable : goal.returns-clause-nameable
returns-clause-nameable c =
    let other : as_plan_stop c.args.stop ≢ stops.NoMemory =
    λ e. true≢false (sym (c.is_want_of_memory.ensures.1 (c.plan_stop-stop.ensures ∙ e)) ∙ c.if-is_want_of_memory.false) in
    IfOk-weaker c.named.result (λ named. named ≡ named_of c.args.project.now c.plan_stop-stop.result)
    (λ named. IsNameable c.args.project.now (as_plan_stop c.args.stop))
    (λ named same. check_stop-nameable c.args.project.now c.draft-draft.ensures.sound c.has_sound_topologies.ensures c.args.plan.now c.args.stop other c.requires)
    c.named.ensures
