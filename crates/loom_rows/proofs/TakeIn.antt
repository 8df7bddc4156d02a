-- The rows of a reduced list, taken in one after another.
use Rattle.std.proofs.Common.{◌≡◌, ℕ, suc, ◌+◌, ◌-◌, ◌<◌, ◌≤◌, inl, inr, Bool, true, false, cond, List, [], ◌∷◌, ◌++◌, length, get_or, Option, Some, None, slice_get, refl, sym, ap, subst, ◌∙◌, arith, ◌==◌, if◌then◌else◌, Result, Ok, Err, append_assoc, append-nil, length-append}
use Rattle.std.specs.Option.{option_map}
use Rattle.std.proofs.lemmas.Bool.{cases_eq, eq-eqb, ne_eqb, lt-ltb}
use Rattle.std.proofs.lemmas.Option.{slice_get-get_or, slice_get_within, same_Some}
use Rattle.loom_formula.specs.declared.row_list.Row.{Row}
use Rattle.loom_formula.specs.RowList.{AreBelow, row_at, value_of}
use Rattle.loom_formula.proofs.Walks.{row_at-from_2, value_of-row, value_of-end}
use Rattle.loom_rows.specs.declared.cond.Cond.{Cond, Never, Always}
use Rattle.loom_rows.specs.declared.stop.RowsStop.{RowsStop}
use Rattle.loom_rows.specs.declared.stop.RowsStop.TheVariants.{NoMemory}
use Rattle.loom_rows.specs.Condition.{Meaning, value, first_option}
use Rattle.loom_rows.specs.Table.{Table, Has, IsSound}
use Rattle.loom_rows.specs.Leftovers.{AreSame, Works}
use Rattle.loom_rows.specs.Outcome.{Outcome, branch}
use Rattle.loom_rows.specs.RowLists.{meaning_at, meanings_from, meanings_of, IsReduced, AreOptionsBelow, AreConditionsOf}
use Rattle.loom_rows.specs.Taken.{cond_at}
use Rattle.loom_rows.proofs.Conditions.{same}
use Rattle.loom_rows.proofs.Outcomes.{keeps}
use Rattle.loom_rows.proofs.Made.{slice_get-append_cases}
use Rattle.loom_rows.proofs.Counted.{element}
use Rattle.loom_rows.proofs.Worked.{works-one}
use Rattle.loom_rows.proofs.Progress.{Progress, progress-none, progress-step, progress-done, progress-stop, progress-no_memory}

-- the number after `at` rows is that of the row at that place
pub row-at : (rows : List Row) (at : ℕ) (row : Row) → slice_get rows at ≡ Some row → row_at rows (at + 2) ≡ Some row
row-at rows at row e = row_at-from_2 rows (at + 2) at refl ∙ e

-- and the other way round
pub number-row : (rows : List Row) (at : ℕ) (row : Row) → row_at rows (at + 2) ≡ Some row → slice_get rows at ≡ Some row
number-row rows at row e = sym (row_at-from_2 rows (at + 2) at refl) ∙ e

-- a number from 2 on is that of the row at its place
pub at-row : (rows : List Row) (number : ℕ) → 2 ≤ number → row_at rows number ≡ slice_get rows (number - 2)
at-row rows number le = row_at-from_2 rows number (number - 2) (omega arith)

pub below-none : (rows : List Row) (number : ℕ) → number < 2 → row_at rows number ≡ None
below-none rows number lt = ap (λ b. if b then None else slice_get rows (number - 2)) (lt-ltb number 2 lt)

-- a row means what its parts mean at its option
pub meaning-row : (rows : List Row) (number : ℕ) (row : Row) → AreBelow rows → row_at rows number ≡ Some row → (c : ℕ → Bool) → meaning_at rows number c ≡ cond (c row.option) (meaning_at rows row.high c) (meaning_at rows row.low c)
meaning-row rows number row below at c = value_of-row rows c number row below at ∙ by (c row.option)
  where
    by : (b : Bool) → value_of rows c (cond b row.high row.low) ≡ cond b (value_of rows c row.high) (value_of rows c row.low)
    by true = refl
    by false = refl

-- a row that a list tells by its parts
pub row-told : (o : Option Row) (option low high : ℕ) → ◌≡◌ {A = Option (ℕ × ℕ × ℕ)} (Some (option, low, high)) (option_map (λ row. (row.option, row.low, row.high)) o) → o ≡ Some (record { option = option; low = low; high = high })
row-told None option low high e = absurd (cc)
row-told (Some row) option low high e =
    let p = same_Some (option, low, high) (row.option, row.low, row.high) e in
    λ i. Some (record { option = (sym p i).0; low = (sym p i).1; high = (sym p i).2 })

module _ (rows : List Row) (below : AreBelow rows) (reduced : IsReduced rows) where
  -- the first k rows are taken in
  pub record TakenIn (k : ℕ) (old t : Table) (conds : List Cond) : Type 0 where
    pub counted : length conds ≡ k
    pub in_range : k ≤ length rows
    pub same_options : t.options ≡ old.options
    pub conditions : AreConditionsOf rows t conds
    pub from : (i : ℕ) (x : Cond) (row : Row) → slice_get conds i ≡ Some x → slice_get rows i ≡ Some row → row.option ≤ first_option t.options x
    pub done : List Meaning
    pub progress : Progress done old t
    pub whole : meanings_of rows ≡ done ++ meanings_from rows k (length rows - k)

  pub taken-init : (t : Table) → IsSound t → TakenIn 0 t t []
  taken-init t sound = record {
    counted = refl;
    in_range = omega arith;
    same_options = refl;
    conditions = λ i x e. absurd (cc);
    from = λ i x row e w. absurd (cc);
    done = [];
    progress = progress-none t sound;
    whole = let e : length rows ≡ length rows - 0 = omega arith in ap (meanings_from rows 0) e;
  }

  -- the condition of a number below the next row's
  pub record IsPart (t : Table) (option number : ℕ) (x : Cond) : Type 0 where
    pub has : Has t x
    pub valued : AreSame (value x) (meaning_at rows number)
    pub rises : option < first_option t.options x

  part-of : (k : ℕ) (old t : Table) (conds : List Cond) → TakenIn k old t conds → (option : ℕ) → option < t.options → (number : ℕ) → number < k + 2
      → ((part : Row) → row_at rows number ≡ Some part → option < part.option) → IsPart t option number (cond_at conds number)
  part-of k old t conds taken option lt number in_k rises =
      elim (cases_eq number 0) [
        | inl e ↦
            subst (IsPart t option number) (ap (λ b. if b then Never else (if number == 1 then Always else get_or conds (number - 2) Never)) (sym (eq-eqb number 0 e)))
            (record { has = tt; valued = λ c. sym (value_of-end rows c number (below-none rows number (omega arith)) ∙ ne_eqb number 1 (λ q. absurd (omega arith))); rises = lt })
        | inr ne ↦ elim (cases_eq number 1) [
          | inl e ↦
              subst (IsPart t option number)
              (ap (λ b. if b then Always else get_or conds (number - 2) Never) (sym (eq-eqb number 1 e)) ∙ ap (λ b. if b then Never else (if number == 1 then Always else get_or conds (number - 2) Never)) (sym (ne_eqb number 0 ne)))
              (record { has = tt; valued = λ c. sym (value_of-end rows c number (below-none rows number (omega arith)) ∙ eq-eqb number 1 e); rises = lt })
          | inr ne1 ↦
              subst (IsPart t option number)
              (ap (λ b. if b then Always else get_or conds (number - 2) Never) (sym (ne_eqb number 1 ne1)) ∙ ap (λ b. if b then Never else (if number == 1 then Always else get_or conds (number - 2) Never)) (sym (ne_eqb number 0 ne)))
              (by (omega arith))
        ]
      ]
    where
      by : 2 ≤ number → IsPart t option number (get_or conds (number - 2) Never)
      by le =
          let lt : number - 2 < length conds = omega (arith, taken.counted) in
          let x = slice_get-get_or conds (number - 2) Never lt in
          let h = taken.conditions (number - 2) (get_or conds (number - 2) Never) x in
          let p = element rows (number - 2) (omega (arith, taken.in_range)) in
          let back : (number - 2) + 2 ≡ number = omega arith in
          record {
            has = h.0;
            valued = λ c. h.1 c ∙ ap (λ n. meaning_at rows n c) back;
            rises = omega (arith, rises p.0 (at-row rows number le ∙ p.1), taken.from (number - 2) (get_or conds (number - 2) Never) p.0 x p.1);
          }

  -- one more row
  module _ (k : ℕ) (old t : Table) (conds : List Cond) (taken : TakenIn k old t conds) (row : Row) (at : row_at rows (k + 2) ≡ Some row) (options : AreOptionsBelow old.options rows) where
    pub low-part : IsPart t row.option row.low (cond_at conds row.low)
    low-part =
        part-of k old t conds taken row.option (omega (arith, options (k + 2) row at, taken.same_options)) row.low (below.low (k + 2) row at)
        (λ part e. reduced.low_rises (k + 2) row part at e)

    pub high-part : IsPart t row.option row.high (cond_at conds row.high)
    high-part =
        part-of k old t conds taken row.option (omega (arith, options (k + 2) row at, taken.same_options)) row.high (below.high (k + 2) row at)
        (λ part e. reduced.high_rises (k + 2) row part at e)

    row-here : slice_get rows k ≡ Some row
    row-here = sym (row_at-from_2 rows (k + 2) k refl) ∙ at

    row-branch : branch row.option (value (cond_at conds row.low)) (value (cond_at conds row.high)) ≡ meaning_at rows (k + 2)
    row-branch = same (λ c. (λ i. cond (c row.option) (high-part.valued c i) (low-part.valued c i)) ∙ sym (meaning-row rows (k + 2) row below at c))

    rest-more : meanings_from rows k (length rows - k) ≡ meaning_at rows (k + 2) ∷ meanings_from rows (k + 1) (length rows - (k + 1))
    rest-more =
        let lt = slice_get_within rows k row row-here in
        let e : length rows - k ≡ suc (length rows - (k + 1)) = omega arith in
        ap (meanings_from rows k) e

    module _ (u : Table) (r : Result Cond RowsStop) (outcome : Outcome (branch row.option (value (cond_at conds row.low)) (value (cond_at conds row.high))) row.option t u r) where
      row-works : Works (meaning_at rows (k + 2) ∷ []) t u r
      row-works = subst (λ (f : Meaning). Works (f ∷ []) t u r) row-branch (works-one _ row.option t u r outcome)

    pub taken-stop : {A : Type 0} (u : Table) (e : RowsStop) → Outcome (branch row.option (value (cond_at conds row.low)) (value (cond_at conds row.high))) row.option t u (Err e) → Works {A = A} (meanings_of rows) old u (Err e)
    taken-stop {A} u e o =
        let rest = meanings_from rows (k + 1) (length rows - (k + 1)) in
        subst (λ (l : List Meaning). Works {A = A} l old u (Err e))
        (append_assoc taken.done (meaning_at rows (k + 2) ∷ []) rest ∙ ap (λ l. taken.done ++ l) (sym rest-more) ∙ sym taken.whole)
        (progress-stop taken.done (meaning_at rows (k + 2) ∷ []) rest old t u e taken.progress (row-works u (Err e) o))

    module _ (u : Table) (x : Cond) (o : Outcome (branch row.option (value (cond_at conds row.low)) (value (cond_at conds row.high))) row.option t u (Ok x)) where
      grown : Progress (taken.done ++ meaning_at rows (k + 2) ∷ []) old u
      grown = progress-step taken.done (meaning_at rows (k + 2) ∷ []) old t u x taken.progress (row-works u (Ok x) o)

      grown-whole : meanings_of rows ≡ (taken.done ++ meaning_at rows (k + 2) ∷ []) ++ meanings_from rows (k + 1) (length rows - (k + 1))
      grown-whole = taken.whole ∙ ap (λ l. taken.done ++ l) rest-more ∙ sym (append_assoc taken.done (meaning_at rows (k + 2) ∷ []) (meanings_from rows (k + 1) (length rows - (k + 1))))

      pub taken-no_memory : {A : Type 0} → Works {A = A} (meanings_of rows) old u (Err NoMemory)
      taken-no_memory {A} =
          subst (λ (l : List Meaning). Works {A = A} l old u (Err NoMemory)) (sym grown-whole)
          (progress-no_memory (taken.done ++ meaning_at rows (k + 2) ∷ []) (meanings_from rows (k + 1) (length rows - (k + 1))) old u grown)

      pub taken-next : (more : List Cond) → more ≡ conds ++ x ∷ [] → TakenIn (k + 1) old u more
      taken-next more pushed = record {
        counted = ap length pushed ∙ length-append conds (x ∷ []) ∙ omega (arith, taken.counted);
        in_range = omega (arith, slice_get_within rows k row row-here);
        same_options = o.gains.same_options ∙ taken.same_options;
        conditions = λ i y e.
            elim (slice_get-append_cases conds x y i (ap (λ l. slice_get l i) (sym pushed) ∙ e)) [
              | inl p ↦ let h = taken.conditions i y p.1 in (keeps o.gains y h.0, h.1)
              | inr q ↦
                  let here : i ≡ k = q.0 ∙ taken.counted in
                  subst (λ (z : Cond). Has u z × AreSame (value z) (meaning_at rows (i + 2))) q.1
                  (o.answer.has, λ c. o.answer.valued c ∙ ap (λ f. f c) row-branch ∙ ap (λ n. meaning_at rows (n + 2) c) (sym here))
            ];
        from = λ i y w e v.
            elim (slice_get-append_cases conds x y i (ap (λ l. slice_get l i) (sym pushed) ∙ e)) [
              | inl p ↦ subst (λ (n : ℕ). w.option ≤ first_option n y) (sym o.gains.same_options) (taken.from i y w p.1 v)
              | inr q ↦
                  let here : i ≡ k = q.0 ∙ taken.counted in
                  let same_row = same_Some w row (sym v ∙ ap (slice_get rows) here ∙ row-here) in
                  subst (λ (z : Cond). w.option ≤ first_option u.options z) q.1 (omega (arith, o.answer.rises, ap (λ s. s.option) same_row))
            ];
        done = taken.done ++ meaning_at rows (k + 2) ∷ [];
        progress = grown;
        whole = grown-whole;
      }

  pub taken-done : (k : ℕ) (old t : Table) (conds : List Cond) → TakenIn k old t conds → length rows ≤ k → Works (meanings_of rows) old t (Ok conds)
  taken-done k old t conds taken past =
      let none : length rows - k ≡ 0 = omega arith in
      subst (λ (l : List Meaning). Works l old t (Ok conds)) (sym (taken.whole ∙ ap (λ n. taken.done ++ meanings_from rows k n) none ∙ append-nil taken.done)) (progress-done taken.done old t conds taken.progress)
