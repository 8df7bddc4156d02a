use Rattle.std.proofs.Common.{false, sym, ap, subst, ◌∷◌, []}
use Rattle.std.specs.Option.{option_map_or}
use Rattle.loom_formula.specs.Formula.{is_chosen}
use Rattle.loom_rows.specs.Condition.{Meaning}
use Rattle.loom_rows.specs.Table.{IsSound}
use Rattle.loom_rows.specs.Leftovers.{Works}
use Rattle.loom_rows.proofs.Conditions.{same}
use Rattle.loom_rows.proofs.WorkFolds.{works-never}
use Rattle.loom_rows.proofs.rows.Rows.named.Goals as goal

pub returns-in-Some-clause-works : goal.returns-in-Some-clause-works
returns-in-Some-clause-works c =
    subst (λ (f : Meaning). Works (f ∷ []) c.args.self.now c.is.new.self c.is.result) (same (λ d. ap (λ o. option_map_or d o false) c.in-Some.ensures.value)) c.is.ensures.works

pub returns-in-None-clause-works : goal.returns-in-None-clause-works
returns-in-None-clause-works c =
    works-never c.args.self.now (λ d. is_chosen c.args.options.now d c.args.name) _ (subst IsSound c.self.view_is c.self.invariant.sound)
    (λ d. sym (ap (λ o. option_map_or d o false) c.in-None.ensures.value))
