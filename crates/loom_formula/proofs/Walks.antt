-- Walks from row to row.
use Rattle.std.proofs.Common.{◌≡◌, ℕ, zero, suc, ◌+◌, ◌-◌, ◌<◌, ◌==◌, Bool, true, false, if◌then◌else◌, List, [], ◌∷◌, ◌++◌, length, Option, None, Some, cond, nat_lt, refl, ap, ◌∙◌, arith}
use Rattle.std.specs.List.{slice_get}
use Rattle.std.specs.Option.{option_map_or}
use Rattle.std.proofs.lemmas.Bool.Decides.{nat_tests}
use Rattle.loom_formula.specs.declared.row_list.Row.{Row}
use Rattle.loom_formula.specs.RowList.{AreBelow, row_at, next_of, value_within, value_of}

-- the rows are numbered from 2 on
pub row_at-from_2 : (rows : List Row) (number at : ℕ) → number ≡ at + 2 → row_at rows number ≡ slice_get rows at
row_at-from_2 rows number at e = grind (arith, nat_tests)

-- low and high are below the row's number
pub below_at : (rows : List Row) (number at : ℕ) (row : Row) → AreBelow rows → number ≡ at + 2 → slice_get rows at ≡ Some row → (row.low < number) × (row.high < number)
below_at rows number at row below e found =
    let here = row_at-from_2 rows number at e ∙ found in
    (below.low number row here, below.high number row here)

pub next-below : (rows : List Row) (choice : ℕ → Bool) (number : ℕ) (row : Row) → AreBelow rows → row_at rows number ≡ Some row → next_of row choice < number
next-below rows choice number row below here =
    let Within : Bool → Type 0 = λ b. (if b then row.high else row.low) < number in
    elim (choice row.option) as Within [ true ↦ below.high number row here | false ↦ below.low number row here ]

-- steps past the number of the start change nothing
value_within-more : (rows : List Row) (choice : ℕ → Bool) → AreBelow rows → (steps more number : ℕ) → number < steps → number < more → value_within steps rows choice number ≡ value_within more rows choice number
unfolding value_within
value_within-more rows choice below zero more number few fits = absurd (omega arith)
value_within-more rows choice below (suc steps) zero number few fits = absurd (omega arith)
value_within-more rows choice below (suc steps) (suc more) number few fits =
    let Same : Option Row → Type 0 = λ r. row_at rows number ≡ r → option_map_or (λ row. value_within steps rows choice (next_of row choice)) r (number == 1) ≡ option_map_or (λ row. value_within more rows choice (next_of row choice)) r (number == 1) in
    let at_row : (r : Option Row) → Same r = λ r. elim r as Same [
      | None ↦ λ _. refl
      | Some row ↦ λ here.
          let lower : next_of row choice < number = next-below rows choice number row below here in
          value_within-more rows choice below steps more (next_of row choice) (omega arith) (omega arith)
    ] in
    at_row (row_at rows number) refl

-- a number with a row has the value of the number that the row leads to
pub value_of-row : (rows : List Row) (choice : ℕ → Bool) (number : ℕ) (row : Row) → AreBelow rows → row_at rows number ≡ Some row → value_of rows choice number ≡ value_of rows choice (next_of row choice)
unfolding value_within value_of
value_of-row rows choice number row below here =
    let lower : next_of row choice < number = next-below rows choice number row below here in
    ap (λ r. option_map_or (λ row. value_within number rows choice (next_of row choice)) r (number == 1)) here
    ∙ value_within-more rows choice below number (suc (next_of row choice)) (next_of row choice) lower (omega arith)

-- a number without a row is true at 1 alone
pub value_of-end : (rows : List Row) (choice : ℕ → Bool) (number : ℕ) → row_at rows number ≡ None → value_of rows choice number ≡ (number == 1)
unfolding value_within value_of
value_of-end rows choice number none = ap (λ r. option_map_or (λ row. value_within number rows choice (next_of row choice)) r (number == 1)) none

-- a number with a row whose option is true has the value of high
pub value_of-high : (rows : List Row) (choice : ℕ → Bool) (number : ℕ) (row : Row) → AreBelow rows → row_at rows number ≡ Some row → choice row.option ≡ true → value_of rows choice number ≡ value_of rows choice row.high
value_of-high rows choice number row below here is_true =
    value_of-row rows choice number row below here ∙ ap (λ b. value_of rows choice (if b then row.high else row.low)) is_true

-- and one whose option is false that of low
pub value_of-low : (rows : List Row) (choice : ℕ → Bool) (number : ℕ) (row : Row) → AreBelow rows → row_at rows number ≡ Some row → choice row.option ≡ false → value_of rows choice number ≡ value_of rows choice row.low
value_of-low rows choice number row below here is_false =
    value_of-row rows choice number row below here ∙ ap (λ b. value_of rows choice (if b then row.high else row.low)) is_false

slice_get-append : {X : Type 0} (xs ys : List X) (k : ℕ) → k < length xs → slice_get (xs ++ ys) k ≡ slice_get xs k
slice_get-append [] ys k within = absurd (omega arith)
slice_get-append (x ∷ xs) ys zero within = refl
slice_get-append (x ∷ xs) ys (suc k) within = slice_get-append xs ys k (omega arith)

-- later rows leave the earlier ones as they are
pub row_at-append : (rows more : List Row) (number : ℕ) → number < length rows + 2 → row_at (rows ++ more) number ≡ row_at rows number
row_at-append rows more number within =
    let Same : Bool → Type 0 = λ b. nat_lt number 2 ≡ b → cond b None (slice_get (rows ++ more) (number - 2)) ≡ cond b None (slice_get rows (number - 2)) in
    let at_test : (b : Bool) → Same b = λ b. elim b as Same [
      | true ↦ λ _. refl
      | false ↦ λ from_2.
          let inside : number - 2 < length rows = grind (arith, nat_tests) in
          slice_get-append rows more (number - 2) inside
    ] in
    at_test (nat_lt number 2) refl

value_within-append : (rows more : List Row) (choice : ℕ → Bool) → AreBelow (rows ++ more) → (steps number : ℕ) → number < length rows + 2 → value_within steps (rows ++ more) choice number ≡ value_within steps rows choice number
unfolding value_within
value_within-append rows more choice below zero number within = refl
value_within-append rows more choice below (suc steps) number within =
    let longer = rows ++ more in
    let Same : Option Row → Type 0 = λ r. row_at longer number ≡ r → option_map_or (λ row. value_within steps longer choice (next_of row choice)) r (number == 1) ≡ option_map_or (λ row. value_within steps rows choice (next_of row choice)) r (number == 1) in
    let at_row : (r : Option Row) → Same r = λ r. elim r as Same [
      | None ↦ λ _. refl
      | Some row ↦ λ here.
          let lower : next_of row choice < number = next-below longer choice number row below here in
          value_within-append rows more choice below steps (next_of row choice) (omega arith)
    ] in
    at_row (row_at longer number) refl
    ∙ ap (λ r. option_map_or (λ row. value_within steps rows choice (next_of row choice)) r (number == 1)) (row_at-append rows more number within)

-- and their values
pub value_of-append : (rows more : List Row) (choice : ℕ → Bool) (number : ℕ) → AreBelow (rows ++ more) → number < length rows + 2 → value_of (rows ++ more) choice number ≡ value_of rows choice number
unfolding value_of
value_of-append rows more choice number below within = value_within-append rows more choice below (suc number) number within
