use Rattle.std.proofs.Common.{sym, subst, IsNone, IsTrue, ◌↔◌, Option, ℕ}
use Rattle.loom_formula.specs.Choice.{choice_at, is_valid}
use Rattle.loom_formula.specs.Formula.{holds_of}
use Rattle.loom_formula.proofs.Validity.{position-none}
use Rattle.loom_formula.proofs.holds.broken.Goals as goal

pub returns-in_err-at-clause-valid : goal.returns-in_err-at-clause-valid
returns-in_err-at-clause-valid c =
    let options = c.args.options.now in
    let choice = choice_at c.args.choice.now.values in
    let Valid : Option ℕ → Type 0 = λ at. IsNone at ↔ IsTrue (is_valid c.args.rules.now options choice) in
    rw c.from_residual.ensures (subst Valid (sym c.in_err-at.ensures) (position-none (λ rule. holds_of rule options choice) c.args.rules.now))

pub returns-clause-valid : goal.returns-clause-valid
returns-clause-valid c =
    let options = c.args.options.now in
    let choice = choice_at c.args.choice.now.values in
    let Valid : Option ℕ → Type 0 = λ at. IsNone at ↔ IsTrue (is_valid c.args.rules.now options choice) in
    subst Valid (sym c.in_ok-at.ensures) (position-none (λ rule. holds_of rule options choice) c.args.rules.now)
