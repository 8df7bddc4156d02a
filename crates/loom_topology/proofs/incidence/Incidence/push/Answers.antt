use Rattle.std.proofs.Common.{ap, ◌∙◌, map}
use Rattle.std.proofs.Math.Seq.{map-set_same}
use Rattle.std.proofs.lemmas.List.{map-append}
use Rattle.std.proofs.lemmas.Result.{err_from_is_err_and}
use Rattle.loom_topology.proofs.NodeLists.{map-set-push}
use Rattle.loom_topology.proofs.incidence.Incidence.push.Goals as goal

pub returns-in_err-push-clause-err : goal.returns-in_err-push-clause-err
returns-in_err-push-clause-err c =
    let p = err_from_is_err_and c.from_residual.result c.from_residual.ensures.1 in
    rw p.1
    (map-set_same _ c.self.inside.lists.items c.args.node.0 c.push.new.self c.index_mut.result.now
    (ap (map (λ s. s.0)) c.in_err-push.ensures.items ∙ ap (λ l. map (λ s. s.0) l.items) c.index_mut.ensures.value)
    ∙ c.self.view_is)

pub returns-clause-ok : goal.returns-clause-ok
returns-clause-ok c =
    map-set-push (λ l. map (λ s. s.0) l.items) c.self.inside.lists.items c.args.self.now c.args.node.0 c.args.segment.0
    c.index_mut.result.now c.push.new.self c.self.view_is c.requires c.index_mut.ensures.value
    (ap (map (λ s. s.0)) c.in_ok-push.ensures.items ∙ map-append _ _ _)
