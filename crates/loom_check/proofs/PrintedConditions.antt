-- The condition of a printed row's number is one of the table, and means what the number means.
use Rattle.std.proofs.Common.{◌≡◌, ℕ, ◌+◌, ◌-◌, ◌<◌, ◌≤◌, inl, inr, List, length, get_or, sym, ap, subst, ◌∙◌, arith, ◌==◌, if◌then◌else◌}
use Rattle.std.proofs.lemmas.Bool.{cases_eq, eq-eqb, ne_eqb}
use Rattle.std.proofs.lemmas.Option.{slice_get-get_or}
use Rattle.loom_formula.specs.declared.row_list.Row.{Row}
use Rattle.loom_formula.proofs.Walks.{value_of-end}
use Rattle.loom_rows.specs.declared.cond.Cond.{Cond, Never, Always}
use Rattle.loom_rows.specs.Condition.{value}
use Rattle.loom_rows.specs.Table.{Table, Has}
use Rattle.loom_rows.specs.Leftovers.{AreSame}
use Rattle.loom_rows.specs.RowLists.{meaning_at, AreConditionsOf}
use Rattle.loom_rows.specs.Taken.{cond_at}
use Rattle.loom_rows.proofs.TakeIn.{below-none}

module _ (rows : List Row) (t : Table) (conds : List Cond) (number : ℕ) (are : AreConditionsOf rows t conds) (counted : length conds ≡ length rows)
    (within : number < length rows + 2) where
  abbrev Fits : Cond → Type 0
  Fits x = Has t x × AreSame (value x) (meaning_at rows number)

  fits : Fits (cond_at conds number)
  fits = elim (cases_eq number 0) [
    | inl e ↦
        subst Fits (ap (λ b. if b then Never else (if number == 1 then Always else get_or conds (number - 2) Never)) (sym (eq-eqb number 0 e)))
        (tt, λ c. sym (value_of-end rows c number (below-none rows number (omega arith)) ∙ ne_eqb number 1 (λ q. absurd (omega arith))))
    | inr ne ↦ elim (cases_eq number 1) [
      | inl e ↦
          subst Fits
          (ap (λ b. if b then Always else get_or conds (number - 2) Never) (sym (eq-eqb number 1 e)) ∙ ap (λ b. if b then Never else (if number == 1 then Always else get_or conds (number - 2) Never)) (sym (ne_eqb number 0 ne)))
          (tt, λ c. sym (value_of-end rows c number (below-none rows number (omega arith)) ∙ eq-eqb number 1 e))
      | inr ne1 ↦
          subst Fits
          (ap (λ b. if b then Always else get_or conds (number - 2) Never) (sym (ne_eqb number 1 ne1)) ∙ ap (λ b. if b then Never else (if number == 1 then Always else get_or conds (number - 2) Never)) (sym (ne_eqb number 0 ne)))
          (by (omega arith))
    ]
  ]
    where
      by : 2 ≤ number → Fits (get_or conds (number - 2) Never)
      by le =
          let lt : number - 2 < length conds = omega (arith, counted) in
          let h = are (number - 2) (get_or conds (number - 2) Never) (slice_get-get_or conds (number - 2) Never lt) in
          let back : (number - 2) + 2 ≡ number = omega arith in
          (h.0, λ c. h.1 c ∙ ap (λ n. meaning_at rows n c) back)

  pub condition-has : Has t (cond_at conds number)
  condition-has = fits.0

  pub condition-same : AreSame (value (cond_at conds number)) (meaning_at rows number)
  condition-same = fits.1
