-- Walks number a row's parts before the row, and a row that is taken means a leftover of what the walk begins at.
use Rattle.std.proofs.Common.{◌≡◌, ℕ, zero, suc, ◌+◌, ◌-◌, ◌<◌, ◌≤◌, Bool, true, false, cond, List, [], ◌∷◌, length, Some, slice_get, sym, ap, subst, ◌∙◌, arith, Contains, inl, inr}
use Rattle.std.proofs.lemmas.Bool.{cases_lt}
use Rattle.std.proofs.lemmas.Option.{same_Some, slice_get_within, slice_get_past}
use Rattle.loom_base.proofs.Contained.{Contains-here, Contains-cons}
use Rattle.loom_formula.specs.declared.row_list.Row.{Row}
use Rattle.loom_formula.specs.RowList.{AreBelow, row_at}
use Rattle.loom_formula.proofs.Walks.{value_of-end}
use Rattle.loom_rows.specs.Leftovers.{IsLeftover, set_before}
use Rattle.loom_rows.specs.Printed.{Walks, has_number, takes, WalksAll}
use Rattle.loom_rows.specs.RowLists.{meaning_at, IsReduced}
use Rattle.loom_rows.proofs.Conditions.{set_before-in, set_before-past}
use Rattle.loom_rows.proofs.Counted.{element}
use Rattle.loom_rows.proofs.Outcomes.{leftover-trans, leftover-self}
use Rattle.loom_rows.proofs.TakeIn.{at-row, below-none, meaning-row}

-- a number with a row stands for the row at its place
pub record HasPlace (rows : List Row) (number : ℕ) (row : Row) : Type 0 where
  pub from_two : 2 ≤ number
  pub within : number - 2 < length rows
  pub at : slice_get rows (number - 2) ≡ Some row

pub place_of : (rows : List Row) (number : ℕ) (row : Row) → row_at rows number ≡ Some row → HasPlace rows number row
place_of rows number row at = elim (cases_lt number 2) [
  | inl end ↦ let clash = sym (below-none rows number end) ∙ at in absurd (cc)
  | inr from ↦
      let there : slice_get rows (number - 2) ≡ Some row = sym (at-row rows number from) ∙ at in
      record { from_two = from; within = slice_get_within rows (number - 2) row there; at = there }
]

module _ (rows : List Row) where
  -- a walk ends behind its beginning, and the number at which it began has a place by then
  walk_ends : (count number after : ℕ) → Walks rows count number after → (count ≤ after) × (number < after + 2)
  walk_ends count number after (has_number before n below) = (omega arith, below)
  walk_ends count number after (takes before between n row at from low high) =
      (omega (arith, from), omega (arith, from))

  -- ---- parts stand before their rows

  abbrev HasPartsBefore : ℕ → Row → Type 0
  HasPartsBefore number row = (row.low < number) × (row.high < number)

  walk_parts : (count number after : ℕ) → Walks rows count number after → (i : ℕ) (row : Row) → count ≤ i → i < after
      → row_at rows (i + 2) ≡ Some row → HasPartsBefore (i + 2) row
  walk_parts count number after (has_number before n below) i row from to at = absurd (omega (arith, from, to))
  walk_parts count number after (takes before between n taken there least low high) i row from to at = elim (cases_lt i between) [
    | inl early ↦ walk_parts before taken.low between low i row from early at
    | inr late ↦ elim (cases_lt i (n - 2)) [
      | inl middle ↦ walk_parts between taken.high (n - 2) high i row late middle at
      | inr last ↦
          let here : n ≡ i + 2 = omega (arith, last, to, least) in
          let same : taken ≡ row = same_Some taken row (sym there ∙ (ap (λ (k : ℕ). row_at rows k) here ∙ at)) in
          let first = walk_ends before taken.low between low in
          let second = walk_ends between taken.high (n - 2) high in (
            omega (arith, ap (λ (r : Row). r.low) same, first.1, second.0, here, least),
            omega (arith, ap (λ (r : Row). r.high) same, second.1, here, least),
          )
    ]
  ]

  walks_parts : (numbers : List ℕ) (count after : ℕ) → WalksAll rows count numbers after → (i : ℕ) (row : Row) → count ≤ i → i < after
      → row_at rows (i + 2) ≡ Some row → HasPartsBefore (i + 2) row
  walks_parts [] count after all i row from to at = absurd (omega (arith, all, from, to))
  walks_parts (number ∷ numbers) count after (between, walk, rest) i row from to at = elim (cases_lt i between) [
    | inl early ↦ walk_parts count number between walk i row from early at
    | inr late ↦ walks_parts numbers between after rest i row late to at
  ]

  parts_before : (numbers : List ℕ) → WalksAll rows 0 numbers (length rows) → (number : ℕ) (row : Row) → row_at rows number ≡ Some row
      → HasPartsBefore number row
  parts_before numbers all number row at =
      let place = place_of rows number row at in
      let from = place.from_two in
      let back : number - 2 + 2 ≡ number = omega (arith, from) in
      subst (λ (n : ℕ). HasPartsBefore n row) back
      (walks_parts numbers 0 (length rows) all (number - 2) row (omega arith) place.within (ap (λ (n : ℕ). row_at rows n) back ∙ at))

  pub walks-below : (numbers : List ℕ) → WalksAll rows 0 numbers (length rows) → AreBelow rows
  walks-below numbers all = record {
    low = λ number row at. (parts_before numbers all number row at).0;
    high = λ number row at. (parts_before numbers all number row at).1;
  }

-- ---- what is taken is left over

module _ (rows : List Row) (below : AreBelow rows) (reduced : IsReduced rows) where
  -- a row's condition depends on no option before its own
  meaning_from : (fuel number k : ℕ) → number < fuel → ((row : Row) → row_at rows number ≡ Some row → k ≤ row.option) → (c d : ℕ → Bool)
      → ((option : ℕ) → k ≤ option → c option ≡ d option) → meaning_at rows number c ≡ meaning_at rows number d
  meaning_from zero number k within from c d agree = absurd (omega (arith, within))
  meaning_from (suc fuel) number k within from c d agree = elim (cases_lt number 2) [
    | inl end ↦
        let none = below-none rows number end in value_of-end rows c number none ∙ sym (value_of-end rows d number none)
    | inr two ↦ elim (cases_lt (number - 2) (length rows)) [
      | inr past ↦
          let none = at-row rows number two ∙ slice_get_past rows (number - 2) past in
          value_of-end rows c number none ∙ sym (value_of-end rows d number none)
      | inl listed ↦
          let (row, stands) = element rows (number - 2) listed in
          let at : row_at rows number ≡ Some row = at-row rows number two ∙ stands in
          let first = from row at in
          let high =
          meaning_from fuel row.high k (omega (arith, below.high number row at, within))
          (λ part at_part. omega (arith, first, reduced.high_rises number row part at at_part)) c d agree in
          let low =
          meaning_from fuel row.low k (omega (arith, below.low number row at, within))
          (λ part at_part. omega (arith, first, reduced.low_rises number row part at at_part)) c d agree in
          let same = agree row.option first in
          meaning-row rows number row below at c
          ∙ ((λ i. cond (same i) (high i) (low i)) ∙ sym (meaning-row rows number row below at d))
    ]
  ]

  -- the parts of a row mean what is left of it once its option is set
  low_left : (number : ℕ) (row : Row) → row_at rows number ≡ Some row → IsLeftover (meaning_at rows number) (meaning_at rows row.low)
  low_left number row at =
      let unset : ℕ → Bool = λ option. false in (
        row.option + 1,
        unset,
        λ d.
            let e : ℕ → Bool = set_before (row.option + 1) unset d in
            let kept : meaning_at rows row.low d ≡ meaning_at rows row.low e =
            meaning_from (suc row.low) row.low (row.option + 1) (omega arith)
            (λ part at_part. omega (arith, reduced.low_rises number row part at at_part)) d e
            (λ option past. sym (set_before-past (row.option + 1) unset d option past)) in
            let here : e row.option ≡ false = set_before-in (row.option + 1) unset d row.option (omega arith) in
            kept
            ∙ sym (meaning-row rows number row below at e ∙ ap (λ (b : Bool). cond b (meaning_at rows row.high e) (meaning_at rows row.low e)) here),
      )

  high_left : (number : ℕ) (row : Row) → row_at rows number ≡ Some row → IsLeftover (meaning_at rows number) (meaning_at rows row.high)
  high_left number row at =
      let set : ℕ → Bool = λ option. true in (
        row.option + 1,
        set,
        λ d.
            let e : ℕ → Bool = set_before (row.option + 1) set d in
            let kept : meaning_at rows row.high d ≡ meaning_at rows row.high e =
            meaning_from (suc row.high) row.high (row.option + 1) (omega arith)
            (λ part at_part. omega (arith, reduced.high_rises number row part at at_part)) d e
            (λ option past. sym (set_before-past (row.option + 1) set d option past)) in
            let here : e row.option ≡ true = set_before-in (row.option + 1) set d row.option (omega arith) in
            kept
            ∙ sym (meaning-row rows number row below at e ∙ ap (λ (b : Bool). cond b (meaning_at rows row.high e) (meaning_at rows row.low e)) here),
      )

  walk_left : (count number after : ℕ) → Walks rows count number after → (i : ℕ) → count ≤ i → i < after
      → IsLeftover (meaning_at rows number) (meaning_at rows (i + 2))
  walk_left count number after (has_number before n under) i from to = absurd (omega (arith, from, to))
  walk_left count number after (takes before between n taken there least low high) i from to = elim (cases_lt i between) [
    | inl early ↦
        leftover-trans (meaning_at rows n) (meaning_at rows taken.low) (meaning_at rows (i + 2)) (low_left n taken there)
        (walk_left before taken.low between low i from early)
    | inr late ↦ elim (cases_lt i (n - 2)) [
      | inl middle ↦
          leftover-trans (meaning_at rows n) (meaning_at rows taken.high) (meaning_at rows (i + 2)) (high_left n taken there)
          (walk_left between taken.high (n - 2) high i late middle)
      | inr last ↦
          let here : n ≡ i + 2 = omega (arith, last, to, least) in
          subst (λ (k : ℕ). IsLeftover (meaning_at rows n) (meaning_at rows k)) here (leftover-self (meaning_at rows n))
    ]
  ]

  -- each row is left over of what one of the walks began at
  pub walks-left : (numbers : List ℕ) (count after : ℕ) → WalksAll rows count numbers after → (i : ℕ) → count ≤ i → i < after
      → (number : ℕ) × Contains numbers number × IsLeftover (meaning_at rows number) (meaning_at rows (i + 2))
  walks-left [] count after all i from to = absurd (omega (arith, all, from, to))
  walks-left (number ∷ numbers) count after (between, walk, rest) i from to = elim (cases_lt i between) [
    | inl early ↦ (number, Contains-here number numbers, walk_left count number between walk i from early)
    | inr late ↦
        let (other, listed, left) = walks-left numbers between after rest i late to in
        (other, Contains-cons other number numbers listed, left)
  ]
