use Rattle.std.proofs.Common.{◌≡◌, Ok, sym, ap, subst, ◌∙◌}
use Rattle.loom_project.specs.declared.draft.Draft.{Draft}
use Rattle.loom_project.specs.Numbers.{with_number, IsThere}
use Rattle.loom_edits.specs.Edits.{edited}
use Rattle.loom_undo.specs.Changes.{Changes}
use Rattle.loom_undo.proofs.HistoryLemmas.{has_inverse, is_step, edit_keeps, edit_moves}
use Rattle.loom_undo.proofs.history.History.set_number.Goals as goal

pub step_of-requires : goal.step_of-requires
step_of-requires c =
    let same : c.args.self.now.draft ≡ c.self.inside.project = sym (ap (λ (x : Changes). x.draft) c.self.view_is) in
    has_inverse c.self.inside.project c.args.edit.now (with_number c.self.inside.project c.args.change)
    (subst (λ (d : Draft). edited d c.args.edit.now ≡ Ok (with_number d c.args.change)) same c.requires.made)

pub set_number-requires : goal.set_number-requires
set_number-requires c =
    let same : c.args.self.now.draft ≡ c.self.inside.project = sym (ap (λ (x : Changes). x.draft) c.self.view_is) in
    subst (λ (d : Draft). IsThere d c.args.change) same c.requires.there

pub invariant_of-self-2 : goal.invariant_of-self-2
invariant_of-self-2 c =
    let same : c.args.self.now.draft ≡ c.self.inside.project = sym (ap (λ (x : Changes). x.draft) c.self.view_is) in
    let made : edited c.self.inside.project c.args.edit.now ≡ Ok c.set_number.new.self =
    subst (λ (d : Draft). edited d c.args.edit.now ≡ Ok (with_number d c.args.change)) same c.requires.made
    ∙ ap (λ (d : Draft). Ok d) (sym c.set_number.ensures.value) in
    let step = is_step c.self.inside.project c.set_number.new.self c.in_ok-setting.setting c.args.edit.now c.step_of.ensures.sound made c.in_ok-setting.ensures.edit c.in_ok-setting.ensures.inverse in
    edit_keeps c.self.inside.kept c.self.inside.standing c.self.inside.project c.set_number.new.self c.in_ok-setting.setting c.keep.new.kept _ c.self.invariant step c.in_ok-keep.ensures.kept c.len-self-inside.ensures

pub returns-clause-applied : goal.returns-clause-applied
returns-clause-applied c =
    let same : c.args.self.now.draft ≡ c.self.inside.project = sym (ap (λ (x : Changes). x.draft) c.self.view_is) in
    let made : edited c.self.inside.project c.args.edit.now ≡ Ok c.set_number.new.self =
    subst (λ (d : Draft). edited d c.args.edit.now ≡ Ok (with_number d c.args.change)) same c.requires.made
    ∙ ap (λ (d : Draft). Ok d) (sym c.set_number.ensures.value) in
    let step = is_step c.self.inside.project c.set_number.new.self c.in_ok-setting.setting c.args.edit.now c.step_of.ensures.sound made c.in_ok-setting.ensures.edit c.in_ok-setting.ensures.inverse in
    edit_moves c.self.inside.kept c.self.inside.standing c.self.inside.project c.set_number.new.self c.in_ok-setting.setting c.args.edit.now c.keep.new.kept _ c.args.self.now c.self.view_is step c.in_ok-setting.ensures.edit c.in_ok-keep.ensures.kept c.len-self-inside.ensures
