use Rattle.std.proofs.Common.{sym, ap, ◌∙◌}
use Rattle.std.proofs.lemmas.Bool.{eqb-true, eq-eqb, true≢false}
use Rattle.loom_rows.proofs.LeastChoices.{holds_somewhere, number-never}
use Rattle.loom_rows.proofs.rows.Rows.is_never.Goals as goal

pub returns-clause-never : goal.returns-clause-never
returns-clause-never c = λ e. number-never c.args.self.now c.args.cond c.requires (sym c.number.ensures ∙ eqb-true _ _ e)

pub returns-clause-some : goal.returns-clause-some
returns-clause-some c = λ e. holds_somewhere c.args.self.now c.args.cond c.requires (λ zero. true≢false (sym (eq-eqb _ _ (c.number.ensures ∙ zero)) ∙ e))
