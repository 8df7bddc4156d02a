use Rattle.std.proofs.Common.{sym, ap, subst, ◌∙◌}
use Rattle.std.proofs.lemmas.Bool.{eqb-true, eq-eqb}
use Rattle.loom_rows.specs.Table.{IsSound}
use Rattle.loom_rows.proofs.Conditions.{same, same_value, same_number}
use Rattle.loom_rows.proofs.rows.Rows.same.Goals as goal

pub returns-clause-same : goal.returns-clause-same
returns-clause-same c =
    let t = c.args.self.now in
    let sound = subst IsSound c.self.view_is c.self.invariant.sound in (
      λ e d. ap (λ f. f d) (same_value t.options t.rows c.args.a c.args.b c.requires.has_a c.requires.has_b (sym c.number.ensures ∙ eqb-true _ _ e ∙ c.number-2.ensures)),
      λ e. eq-eqb _ _ (c.number.ensures ∙ same_number t.options t.rows sound.distinct c.args.a c.args.b c.requires.has_a c.requires.has_b (same e) ∙ sym c.number-2.ensures),
    )
