use Rattle.loom_session.proofs.Stays.{edit_true}
use Rattle.loom_session.proofs.session.Session.edit.Goals as goal

pub invariant_of-self : goal.invariant_of-self
invariant_of-self c =
    edit_true c.self.inside.history c.edit.new.self c.args.edit.now c.self.inside.kept c.forget_where.new.kept c.forgets.result
    c.kept_stays_true.ensures c.forgets.ensures c.forget_where.ensures c.in-Ok.ensures.applied c.self.invariant
