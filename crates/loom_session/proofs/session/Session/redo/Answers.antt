use Rattle.std.proofs.Common.{◌≡◌, None, sym, ap, subst, ◌∙◌}
use Rattle.std.specs.Option.{option_copied}
use Rattle.loom_undo.specs.Changes.{after_redo}
use Rattle.loom_session.specs.Session.{SessionView}
use Rattle.loom_session.proofs.Stays.{redo_true, none_redone}
use Rattle.loom_session.proofs.session.Session.redo.Goals as goal

pub returns-in_default-clause-nothing : goal.returns-in_default-clause-nothing
returns-in_default-clause-nothing c = λ nothing.
    subst (λ (s : SessionView). after_redo s.changes ≡ None) c.self.view_is
    (none_redone c.self.inside.history (sym c.newest_undone.ensures ∙ ap option_copied c.in_default.is))

pub invariant_of-self-2 : goal.invariant_of-self-2
invariant_of-self-2 c =
    redo_true c.self.inside.history c.redo.new.self c.in-Some.edit.now c.self.inside.kept c.forget_where.new.kept c.forgets-forgets.result
    c.kept_stays_true.ensures c.forgets-forgets.ensures c.forget_where.ensures c.in_ok-redo.ensures.leads
    (sym c.newest_undone.ensures ∙ ap option_copied c.in-Some.is) c.self.invariant
