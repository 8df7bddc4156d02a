-- The first row of a list that isn't reduced.
use Rattle.std.proofs.Common.{◌≡◌, ◌≢◌, ℕ, ◌+◌, ◌-◌, ◌<◌, ◌≤◌, ◌⊎◌, inl, inr, Bool, true, false, cond, not, ◌&&◌, ◌||◌, ◌==◌, nat_lt, eqb, List, [], ◌∷◌, length, get_or, take, Option, Some, None, slice_get, refl, sym, ap, subst, ◌∙◌, arith, IsTrue}
use Rattle.std.specs.List.{list_any}
use Rattle.std.specs.Option.{option_map_or}
use Rattle.std.specs.HashSet.{HashSet, IsEmpty, contains, Updates}
use Rattle.std.proofs.lemmas.Bool.{eqb-true, eq-eqb, ltb-true, and_parts, and_from, cases_Bool, cases_order, cases_lt, cases_eq, ne_eqb, true≢false, false≢true}
use Rattle.std.proofs.lemmas.Option.{same_Some, slice_get-get_or, slice_get_within}
use Rattle.std.proofs.lemmas.List.{get_or-take, length-take}
use Rattle.std.proofs.lemmas.List.Folds.{list_any_more, list_any_at}
use Rattle.loom_formula.specs.declared.row_list.Row.{Row}
use Rattle.loom_formula.specs.RowList.{row_at}
use Rattle.loom_rows.specs.Table.{Triple}
use Rattle.loom_rows.specs.RowLists.{IsReduced, AreOptionsBelow}
use Rattle.loom_rows.specs.Reduced.{is_later, leads_on, row_eq, is_reduced_row, AreReducedBefore, IsFirstUnreduced}
use Rattle.loom_rows.proofs.Index.{key_eq}
use Rattle.loom_rows.proofs.TakeIn.{at-row, below-none}

-- the row of a triple, and the triple of a row
abbrev pub row_of : Triple → Row
row_of key = record { option = key.0; low = key.1; high = key.2 }

eqb_comm : (a b : ℕ) → eqb a b ≡ eqb b a
eqb_comm a b = elim (cases_eq a b) [ inl e ↦ eq-eqb a b e ∙ sym (eq-eqb b a (sym e)) | inr ne ↦ ne_eqb a b ne ∙ sym (ne_eqb b a (λ e. ne (sym e))) ]

key_eq_comm : (x y : Triple) → key_eq x y ≡ key_eq y x
key_eq_comm x y = λ i. (eqb_comm x.0 y.0 i && eqb_comm x.1 y.1 i) && eqb_comm x.2 y.2 i

-- the first n rows are those that were seen
pub record AreSeen {S : Type 0} (options : ℕ) (rows : List Row) (n : ℕ) (seen : HashSet Triple S) : Type 0 where
  pub reduced : AreReducedBefore options rows n
  pub has : (key : Triple) → contains key_eq seen key ≡ list_any (row_eq (row_of key)) (take n rows)

module _ {S : Type 0} (options : ℕ) (rows : List Row) (n : ℕ) (old : HashSet Triple S) (seen : AreSeen options rows n old) (row : Row) (at : slice_get rows n ≡ Some row) where
  -- a row that doesn't lead on is the first that isn't reduced
  pub unreduced-leads : leads_on options rows row ≡ false → IsFirstUnreduced options rows (n + 2)
  unreduced-leads e = record { i = n; row = row; numbered = refl; at = at; unreduced = ap (λ b. b && not (list_any (row_eq row) (take n rows))) e; before = seen.reduced }

  -- and so is one that was seen
  pub unreduced-seen : contains key_eq old (row.option, row.low, row.high) ≡ true → IsFirstUnreduced options rows (n + 2)
  unreduced-seen e = record {
    i = n;
    row = row;
    numbered = refl;
    at = at;
    unreduced = ap (λ b. leads_on options rows row && not b) (sym (seen.has (row.option, row.low, row.high)) ∙ e) ∙ off (leads_on options rows row);
    before = seen.reduced;
  }
    where
      off : (b : Bool) → (b && false) ≡ false
      off true = refl
      off false = refl

  -- another one is seen
  pub seen-more : (new : HashSet Triple S) → leads_on options rows row ≡ true → contains key_eq old (row.option, row.low, row.high) ≡ false → Updates key_eq old new (row.option, row.low, row.high) true → AreSeen options rows (n + 1) new
  seen-more new leads absent updates = record {
    reduced = λ i r lt is. elim (cases_lt i n) [
      | inl below ↦ seen.reduced i r below is
      | inr past ↦
          let here : i ≡ n = omega arith in
          let same = same_Some row r (sym at ∙ ap (slice_get rows) (sym here) ∙ is) in
          subst (λ (k : ℕ). IsTrue (is_reduced_row options rows k r)) (sym here)
          (subst (λ (s : Row). IsTrue (is_reduced_row options rows n s)) same
          (and_from (leads_on options rows row) _ leads (ap not (sym (seen.has (row.option, row.low, row.high)) ∙ absent))))
    ];
    has = λ key.
        updates.0 key
        ∙ by (key_eq (row.option, row.low, row.high) key) (contains key_eq old key)
        ∙ (λ i. seen.has key i || key_eq_comm (row.option, row.low, row.high) key i)
        ∙ ap (λ r. list_any (row_eq (row_of key)) (take n rows) || row_eq (row_of key) r) (same_Some row (get_or rows n row) (sym at ∙ slice_get-get_or rows n row lt))
        ∙ sym (list_any_more (row_eq (row_of key)) rows n row lt);
  }
    where
      lt : n < length rows
      lt = slice_get_within rows n row at

      by : (x y : Bool) → cond x true y ≡ (y || x)
      by true true = refl
      by true false = refl
      by false true = refl
      by false false = refl

pub seen-none : {S : Type 0} (options : ℕ) (rows : List Row) (new : HashSet Triple S) → IsEmpty new → AreSeen options rows 0 new
seen-none options rows new empty = record { reduced = λ i row lt at. absurd (omega arith); has = λ key. ap (list_any (key_eq key)) empty }

-- a list all of whose rows are reduced is reduced
module _ (options : ℕ) (rows : List Row) (all : AreReducedBefore options rows (length rows)) where
  at_number : (number : ℕ) (row : Row) → row_at rows number ≡ Some row → (2 ≤ number) × (slice_get rows (number - 2) ≡ Some row)
  at_number number row at = elim (cases_lt number 2) [
    | inl lt ↦ let e = sym (below-none rows number lt) ∙ at in absurd (cc)
    | inr le ↦ (le, sym (at-row rows number le) ∙ at)
  ]

  fact : (number : ℕ) (row : Row) → row_at rows number ≡ Some row → IsTrue (is_reduced_row options rows (number - 2) row)
  fact number row at =
      let p = at_number number row at in
      all (number - 2) row (slice_get_within rows (number - 2) row p.1) p.1

  later : (option number : ℕ) (part : Row) → row_at rows number ≡ Some part → is_later rows option number ≡ true → option < part.option
  later option number part at e = ltb-true option part.option (sym (ap (λ o. option_map_or (λ r. nat_lt option r.option) o (nat_lt number 2)) at) ∙ e)

  -- what it means that a row leads on
  leads : (number : ℕ) (row : Row) → row_at rows number ≡ Some row → (nat_lt row.option options ≡ true) × (not (row.low == row.high) ≡ true) × (is_later rows row.option row.low ≡ true) × (is_later rows row.option row.high ≡ true)
  leads number row at =
      let whole = and_parts (leads_on options rows row) _ (fact number row at) in
      let high = and_parts (nat_lt row.option options && not (row.low == row.high) && is_later rows row.option row.low) (is_later rows row.option row.high) whole.0 in
      let low = and_parts (nat_lt row.option options && not (row.low == row.high)) (is_later rows row.option row.low) high.0 in
      let apart = and_parts (nat_lt row.option options) (not (row.low == row.high)) low.0 in
      (apart.0, apart.1, low.1, high.1)

  row_eq-same : (row : Row) → row_eq row row ≡ true
  row_eq-same row = and_from _ _ (and_from _ _ (eq-eqb row.option row.option refl) (eq-eqb row.low row.low refl)) (eq-eqb row.high row.high refl)

  -- no later row equals an earlier one
  repeats : (one other : ℕ) (row : Row) → row_at rows one ≡ Some row → row_at rows other ≡ Some row → one < other → ⊥
  repeats one other row at_one at_other lt =
      let p = at_number one row at_one in
      let q = at_number other row at_other in
      let fresh = (and_parts (leads_on options rows row) (not (list_any (row_eq row) (take (other - 2) rows))) (fact other row at_other)).1 in
      let in_rows = slice_get_within rows (one - 2) row p.1 in
      let in_take : one - 2 < length (take (other - 2) rows) = omega (arith, length-take (other - 2) rows) in
      let same : row ≡ get_or (take (other - 2) rows) (one - 2) row =
      same_Some row (get_or rows (one - 2) row) (sym p.1 ∙ slice_get-get_or rows (one - 2) row in_rows)
      ∙ sym (get_or-take (other - 2) rows (one - 2) row (omega arith)) in
      let found : list_any (row_eq row) (take (other - 2) rows) ≡ true =
      list_any_at (row_eq row) (take (other - 2) rows) (one - 2) row in_take (ap (row_eq row) (sym same) ∙ row_eq-same row) in
      true≢false (sym fresh ∙ ap not found)

  pub all-below : AreOptionsBelow options rows
  all-below number row at = ltb-true row.option options (leads number row at).0

  pub all-reduced : IsReduced rows
  all-reduced = record {
    low_rises = λ number row part at at_low. later row.option row.low part at_low (leads number row at).2;
    high_rises = λ number row part at at_high. later row.option row.high part at_high (leads number row at).3;
    apart = λ number row at e. true≢false (sym (leads number row at).1 ∙ ap not (eq-eqb row.low row.high e));
    distinct = λ one other row at_one at_other.
        elim (cases_order one other) [
          | inl e ↦ e
          | inr (inl lt) ↦ absurd (repeats one other row at_one at_other lt)
          | inr (inr lt) ↦ absurd (repeats other one row at_other at_one lt)
        ];
  }
