use Rattle.std.proofs.Common.{◌≡◌, None, sym, ap, subst, ◌∙◌}
use Rattle.std.specs.Option.{option_copied}
use Rattle.loom_undo.specs.Changes.{after_undo}
use Rattle.loom_session.specs.Session.{SessionView}
use Rattle.loom_session.proofs.Stays.{undo_true, none_undone}
use Rattle.loom_session.proofs.session.Session.undo.Goals as goal

pub returns-in_default-clause-nothing : goal.returns-in_default-clause-nothing
returns-in_default-clause-nothing c = λ nothing.
    subst (λ (s : SessionView). after_undo s.changes ≡ None) c.self.view_is
    (none_undone c.self.inside.history (sym c.newest.ensures ∙ ap option_copied c.in_default.is))

pub invariant_of-self-2 : goal.invariant_of-self-2
invariant_of-self-2 c =
    undo_true c.self.inside.history c.undo.new.self c.in-Some.edit.now c.self.inside.kept c.forget_where.new.kept c.forgets-forgets.result
    c.kept_stays_true.ensures c.forgets-forgets.ensures c.forget_where.ensures c.in_ok-undo.ensures.leads
    (sym c.newest.ensures ∙ ap option_copied c.in-Some.is) c.self.invariant
