use Rattle.std.proofs.Common.{◌≡◌, sym, ◌∙◌}
use Rattle.std.proofs.lemmas.Bool.{true≢false}
use Rattle.std.proofs.lemmas.Result.{IfOk-weaker}
use Rattle.loom_answer.specs.Stops.{IsNameable, named_of}
use Rattle.loom_top.proofs.NameableStops.{first_stop-nameable}
use Rattle.loom_top.proofs.stop_names.named_stop.Goals as goal

pub named-requires : goal.named-requires
named-requires c =
    first_stop-nameable c.args.project.now c.draft-draft.ensures.sound c.has_sound_topologies.ensures c.args.stop.now
    (λ e. true≢false (sym (c.is_want_of_memory.ensures.1 e) ∙ c.if-is_want_of_memory.false)) c.requires

pub returns-clause-nameable : goal.returns-clause-nameable
returns-clause-nameable c =
    IfOk-weaker c.named.result (λ named. named ≡ named_of c.args.project.now c.args.stop.now) (λ named. IsNameable c.args.project.now c.args.stop.now)
    (λ named same. first_stop-nameable c.args.project.now c.draft-draft.ensures.sound c.has_sound_topologies.ensures c.args.stop.now
    (λ e. true≢false (sym (c.is_want_of_memory.ensures.1 e) ∙ c.if-is_want_of_memory.false)) c.requires)
    c.named.ensures
