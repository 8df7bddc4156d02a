use Rattle.std.proofs.Common.{◌≡◌, ℕ, ◌+◌, ◌<◌, Bool, true, false, not, List, length, Option, Some, slice_get, refl, sym, ap, subst, ◌∙◌, arith}
use Rattle.std.specs.Option.{option_map}
use Rattle.loom_formula.specs.declared.row_list.Row.{Row}
use Rattle.loom_formula.specs.RowList.{row_at}
use Rattle.loom_rows.specs.Table.{Triple}
use Rattle.loom_rows.proofs.TakeIn.{row-told, number-row}
use Rattle.loom_rows.proofs.ReducedRows.{seen-none, seen-more, unreduced-leads, unreduced-seen, all-below, all-reduced}
use Rattle.loom_rows.proofs.reduced.first_unreduced.Goals as goal

-- the row that a list tells at a number
told : (rows : List Row) (at : ℕ) (row : Triple) → ◌≡◌ {A = Option Triple} (Some row) (option_map (λ r. (r.option, r.low, r.high)) (row_at rows (at + 2))) → slice_get rows at ≡ Some (record { option = row.0; low = row.1; high = row.2 })
told rows at row e = number-row rows at _ (row-told (row_at rows (at + 2)) row.0 row.1 row.2 e)

flip : (b : Bool) → not b ≡ false → b ≡ true
flip true e = refl
flip false e = sym e

unflip : (b : Bool) → not b ≡ true → b ≡ false
unflip true e = sym e
unflip false e = refl

pub loop-at-init : goal.loop-at-init
loop-at-init c = seen-none c.args.options c.args.list.now c.new-seen.result c.new-seen.ensures.empty

pub returns-then-not-leads_on-clause-first : goal.returns-then-not-leads_on-clause-first
returns-then-not-leads_on-clause-first c = unreduced-leads c.args.options c.args.list.now c.loop-at.at c.loop-at.seen c.loop-at.invariant (record { option = c.in-Some.row.0; low = c.in-Some.row.1; high = c.in-Some.row.2 }) (told c.args.list.now c.loop-at.at c.in-Some.row c.in-Some.ensures.row) (sym c.leads_on.ensures ∙ c.if-not-leads_on.true)

pub returns-then-not-branch-clause-first : goal.returns-then-not-branch-clause-first
returns-then-not-branch-clause-first c = unreduced-seen c.args.options c.args.list.now c.loop-at.at c.loop-at.seen c.loop-at.invariant (record { option = c.in-Some.row.0; low = c.in-Some.row.1; high = c.in-Some.row.2 }) (told c.args.list.now c.loop-at.at c.in-Some.row c.in-Some.ensures.row) (flip _ (sym c.in_ok-insert.ensures.added ∙ c.if-not-branch.true))

pub loop-at-preserved : goal.loop-at-preserved
loop-at-preserved c = seen-more c.args.options c.args.list.now c.loop-at.at c.loop-at.seen c.loop-at.invariant (record { option = c.in-Some.row.0; low = c.in-Some.row.1; high = c.in-Some.row.2 }) (told c.args.list.now c.loop-at.at c.in-Some.row c.in-Some.ensures.row) c.insert.new.self (sym c.leads_on.ensures ∙ c.if-not-leads_on.false) (unflip _ (sym c.in_ok-insert.ensures.added ∙ c.if-not-branch.false)) c.in_ok-insert.ensures.updates

pub returns-clause-none : goal.returns-clause-none
returns-clause-none c = λ i row lt at. c.loop-at.invariant.reduced i row (omega (arith, c.loop-at-test.false, c.count-at-end.ensures.count)) at

pub returns-clause-reduced : goal.returns-clause-reduced
returns-clause-reduced c =
    let all = λ (i : ℕ) (row : Row) (lt : i < length c.args.list.now) (at : slice_get c.args.list.now i ≡ Some row). c.loop-at.invariant.reduced i row (omega (arith, c.loop-at-test.false, c.count-at-end.ensures.count)) at in
    (all-reduced c.args.options c.args.list.now all, all-below c.args.options c.args.list.now all)
