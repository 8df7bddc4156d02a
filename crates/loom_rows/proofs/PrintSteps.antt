-- The printed list grows by the rows of one condition after another.
use Rattle.std.proofs.Common.{◌≡◌, ◌≢◌, ℕ, zero, suc, ◌+◌, ◌-◌, ◌<◌, ◌≤◌, ◌⊎◌, inl, inr, Bool, cond, List, [], ◌∷◌, ◌++◌, map, length, Option, Some, None, slice_get, refl, sym, ap, subst, ◌∙◌, arith, eqb, append_assoc, append-nil, length-append, Bor}
use lib.ListN.{length-map}
use Rattle.std.proofs.lemmas.Bool.{cases_eq, cases_lt, eq-eqb, ne_eqb}
use Rattle.std.proofs.lemmas.Option.{slice_get_within, same_Some}
use Rattle.loom_formula.specs.declared.row_list.Row.{Row}
use Rattle.loom_formula.specs.RowList.{AreBelow, row_at}
use Rattle.loom_formula.proofs.Walks.{row_at-append, value_of-end, value_of-append}
use Rattle.loom_base.specs.declared.positions.OptionNo.{OptionNo}
use Rattle.loom_rows.specs.declared.cond.Cond.{Cond, Never, Always, Row'}
use Rattle.loom_rows.specs.Condition.{Meaning, value, number_of, first_option}
use Rattle.loom_rows.specs.Table.{Table, Has, IsSound}
use Rattle.loom_rows.specs.Leftovers.{AreSame}
use Rattle.loom_rows.specs.RowLists.{meaning_at, IsReduced, AreOptionsBelow}
use Rattle.loom_rows.specs.Printed.{Walks, has_number, takes, WalksAll, IsPrinted}
use Rattle.loom_rows.specs.Printing.{Shows, IsShown, IsOfRow, IsPrinting, IsPrintStep, AreHad}
use Rattle.loom_rows.proofs.Conditions.{same_value, first_option-lt}
use Rattle.loom_rows.proofs.Made.{slice_get-append_cases, slice_get-append_last}
use Rattle.loom_rows.proofs.TakeIn.{row-at, at-row, below-none, meaning-row}
use Rattle.loom_rows.proofs.Counted.{element, pigeons}

-- ---- row lists that grow

-- a number of a row is in range
pub row-in_range : (rows : List Row) (number : ℕ) (row : Row) → row_at rows number ≡ Some row → number < length rows + 2
row-in_range rows number row e =
    elim (cases_lt number 2) [
      | inl lt ↦ omega arith
      | inr le ↦ let w = slice_get_within rows (number - 2) row (sym (at-row rows number le) ∙ e) in omega arith
    ]

row-from_two : (rows : List Row) (number : ℕ) (row : Row) → row_at rows number ≡ Some row → 2 ≤ number
row-from_two rows number row e =
    elim (cases_lt number 2) [
      | inl lt ↦ let n = sym (below-none rows number lt) ∙ e in absurd (cc)
      | inr le ↦ le
    ]

-- a walk goes the same way in a longer list
pub walks-append : (rows more : List Row) (count number after : ℕ) → Walks rows count number after → Walks (rows ++ more) count number after
walks-append rows more count number after (has_number c n lt) = has_number c n lt
walks-append rows more count number after (takes c between n row at le low high) =
    takes c between n row (row_at-append rows more n (row-in_range rows n row at) ∙ at) le (walks-append rows more c row.low between low) (walks-append rows more between row.high (n - 2) high)

-- ---- conditions

-- a row's condition, part by part
pub record IsRowOf (t : Table) (x : Cond) : Type 0 where
  pub low : Cond
  pub high : Cond
  pub has_low : Has t low
  pub has_high : Has t high
  pub written : slice_get t.rows (number_of x - 2) ≡ Some (first_option t.options x, number_of low, number_of high)

pub row_of : (t : Table) (x : Cond) → Has t x → 2 ≤ number_of x → IsRowOf t x
row_of t Never has le = absurd (omega arith)
row_of t Always has le = absurd (omega arith)
row_of t (Row' p n o low high) has le = record { low = low; high = high; has_low = has.1; has_high = has.2; written = has.0.written }

-- ---- what is printed

module _ (t : Table) (rows : List Row) (known : ℕ → Option ℕ) (p : IsPrinting t rows known) where
  -- a shown number is in range and means its condition
  pub shown-in_range : (x : Cond) (number : ℕ) → Shows known x number → number < length rows + 2
  shown-in_range Never number s = omega arith
  shown-in_range Always number s = omega arith
  shown-in_range (Row' q n o low high) number s = (p.shown n number s).in_range

  pub shown-value : (x : Cond) (number : ℕ) → Has t x → Shows known x number → AreSame (meaning_at rows number) (value x)
  shown-value Never number has s c = value_of-end rows c number (below-none rows number (omega arith)) ∙ ne_eqb number 1 (λ e. absurd (omega arith))
  shown-value Always number has s c = value_of-end rows c number (below-none rows number (omega arith)) ∙ eq-eqb number 1 s
  shown-value (Row' q n o low high) number has s c =
      let h = p.shown n number s in
      sym (h.valued c) ∙ ap (λ f. f c) (same_value t.options t.rows h.x (Row' q n o low high) h.has has h.numbered)

  -- one number is shown of conditions of one number
  pub shown-number : (x y : Cond) (number : ℕ) → Has t x → Has t y → Shows known x number → Shows known y number → number_of x ≡ number_of y
  shown-number Never Never number hx hy s r = refl
  shown-number Never Always number hx hy s r = absurd (omega arith)
  shown-number Never (Row' q n o low high) number hx hy s r = absurd (omega (arith, (p.shown n number r).from_two))
  shown-number Always Never number hx hy s r = absurd (omega arith)
  shown-number Always Always number hx hy s r = refl
  shown-number Always (Row' q n o low high) number hx hy s r = absurd (omega (arith, (p.shown n number r).from_two))
  shown-number (Row' q n o low high) Never number hx hy s r = absurd (omega (arith, (p.shown n number s).from_two))
  shown-number (Row' q n o low high) Always number hx hy s r = absurd (omega (arith, (p.shown n number s).from_two))
  shown-number (Row' q n o low high) (Row' u m v lo hi) number hx hy s r = p.injective n m number s r

  -- a printed row's option is that of the table's row
  row-option : (number : ℕ) (row : Row) → row_at rows number ≡ Some row → (n : ℕ) → known n ≡ Some number → (x : Cond) → Has t x → number_of x ≡ n → row.option ≡ first_option t.options x
  row-option number row at n here x has numbered =
      let le = row-from_two rows number row at in
      let r = p.onto (number - 2) row (sym (at-row rows number le) ∙ at) in
      let back : number - 2 + 2 ≡ number = omega arith in
      let e = p.injective r.n n number (r.at ∙ ap Some back) here in
      let s = p.shown n number here in
      let w = row_of t x has (omega (arith, s.is_row)) in
      let o = same_Some (row.option, number_of r.low, number_of r.high) (first_option t.options x, number_of w.low, number_of w.high) (sym r.written ∙ ap (λ m. slice_get t.rows (m - 2)) (e ∙ sym numbered) ∙ w.written) in
      ap (λ q. q.0) o

  -- the option of a printed row is that of the condition whose number it has
  pub shown-option : (x : Cond) (number : ℕ) (row : Row) → Has t x → Shows known x number → row_at rows number ≡ Some row → row.option ≡ first_option t.options x
  shown-option Never number row has s at = absurd (omega (arith, row-from_two rows number row at))
  shown-option Always number row has s at = absurd (omega (arith, row-from_two rows number row at))
  shown-option (Row' q n o low high) number row has s at = row-option number row at n s (Row' q n o low high) has refl

  pub printed-reduced : IsSound t → IsReduced rows
  printed-reduced sound = record {
    low_rises = λ number row part at part_at.
        let le = row-from_two rows number row at in
        let r = p.onto (number - 2) row (sym (at-row rows number le) ∙ at) in
        omega (arith, r.low_rises, shown-option r.low row.low part r.has_low r.shows_low part_at);
    high_rises = λ number row part at part_at.
        let le = row-from_two rows number row at in
        let r = p.onto (number - 2) row (sym (at-row rows number le) ∙ at) in
        omega (arith, r.high_rises, shown-option r.high row.high part r.has_high r.shows_high part_at);
    apart = λ number row at e.
        let le = row-from_two rows number row at in
        let r = p.onto (number - 2) row (sym (at-row rows number le) ∙ at) in
        r.apart (shown-number r.low r.high row.low r.has_low r.has_high r.shows_low (subst (Shows known r.high) (sym e) r.shows_high));
    distinct = λ one other row at at_other.
        let le = row-from_two rows one row at in
        let ge = row-from_two rows other row at_other in
        let r = p.onto (one - 2) row (sym (at-row rows one le) ∙ at) in
        let q = p.onto (other - 2) row (sym (at-row rows other ge) ∙ at_other) in
        let low = shown-number r.low q.low row.low r.has_low q.has_low r.shows_low q.shows_low in
        let high = shown-number r.high q.high row.high r.has_high q.has_high r.shows_high q.shows_high in
        let same_place = sound.distinct (r.n - 2) (q.n - 2) (row.option, number_of r.low, number_of r.high) r.written (q.written ∙ sym (λ i. Some (row.option, low i, high i))) in
        let rn = (p.shown r.n (one - 2 + 2) r.at).is_row in
        let qn = (p.shown q.n (other - 2 + 2) q.at).is_row in
        let n : r.n ≡ q.n = omega arith in
        let e = same_Some (one - 2 + 2) (other - 2 + 2) (sym r.at ∙ ap known n ∙ q.at) in
        omega arith;
  }

  pub printed-options : AreOptionsBelow t.options rows
  printed-options number row at =
      let le = row-from_two rows number row at in
      let r = p.onto (number - 2) row (sym (at-row rows number le) ∙ at) in
      let s = p.shown r.n (number - 2 + 2) r.at in
      let w = row_of t s.x s.has (omega (arith, s.is_row, s.numbered)) in
      let o = same_Some (row.option, number_of r.low, number_of r.high) (first_option t.options s.x, number_of w.low, number_of w.high) (sym r.written ∙ ap (λ n. slice_get t.rows (n - 2)) (sym s.numbered) ∙ w.written) in
      omega (arith, ap (λ q. q.0) o, first_option-lt t.options t.rows s.x s.has (omega (arith, s.is_row, s.numbered)))

  -- no more rows are printed than the table has
  pub printed-few : length rows ≤ length t.rows
  printed-few =
      let at : (i : ℕ) → i < length rows → (row : Row) × (slice_get rows i ≡ Some row) = λ i lt. element rows i lt in
      let of : (i : ℕ) (lt : i < length rows) → IsOfRow t known i (at i lt).0 = λ i lt. p.onto i (at i lt).0 (at i lt).1 in
      pigeons (length rows) (length t.rows) (λ i lt. (of i lt).n - 2)
      (λ i lt. slice_get_within t.rows ((of i lt).n - 2) _ (of i lt).written)
      (λ i j li lj e.
      let r = of i li in
      let q = of j lj in
      let rn = (p.shown r.n (i + 2) r.at).is_row in
      let qn = (p.shown q.n (j + 2) q.at).is_row in
      let n : r.n ≡ q.n = omega arith in
      let k = same_Some (i + 2) (j + 2) (sym r.at ∙ ap known n ∙ q.at) in
      omega arith)

-- ---- a number that is found

module _ (t : Table) (rows : List Row) (known : ℕ → Option ℕ) (p : IsPrinting t rows known) (x : Cond) (number : ℕ) (shows : Shows known x number) where
  pub step-found : IsPrintStep t rows rows known known x number
  step-found = record {
    printing = p;
    more = [];
    appended = sym (append-nil rows);
    keeps = λ n k e. e;
    adds = λ n k e. inl e;
    shows = shows;
    walked = has_number (length rows) number (shown-in_range t rows known p x number shows);
  }

-- ---- a row that is printed behind its parts

shows-keeps : (before after : ℕ → Option ℕ) → ((n k : ℕ) → before n ≡ Some k → after n ≡ Some k) → (x : Cond) (number : ℕ) → Shows before x number → Shows after x number
shows-keeps before after keeps Never number s = s
shows-keeps before after keeps Always number s = s
shows-keeps before after keeps (Row' q n o low high) number s = keeps n number s

-- the rows with one more
module _ (t : Table) (rows : List Row) (known after : ℕ → Option ℕ) (p : IsPrinting t rows known) (x low high : Cond) (option : ℕ) (has : Has t x) (is_row : 2 ≤ number_of x)
    (has_low : Has t low) (has_high : Has t high) (written : slice_get t.rows (number_of x - 2) ≡ Some (option, number_of low, number_of high))
    (apart : number_of low ≢ number_of high) (low_rises : option < first_option t.options low) (high_rises : option < first_option t.options high)
    (split : (c : ℕ → Bool) → value x c ≡ cond (c option) (value high c) (value low c))
    (low_number high_number : ℕ) (shows_low : Shows known low low_number) (shows_high : Shows known high high_number)
    (absent : known (number_of x) ≡ None) (set : (n : ℕ) → after n ≡ cond (eqb (number_of x) n) (Some (length rows + 2)) (known n)) where
  abbrev new : Row
  new = record { option = option; low = low_number; high = high_number }

  abbrev grown : List Row
  grown = rows ++ new ∷ []

  after-keeps : (n k : ℕ) → known n ≡ Some k → after n ≡ Some k
  after-keeps n k e =
      elim (cases_eq (number_of x) n) [
        | inl q ↦ let z = sym absent ∙ ap known q ∙ e in absurd (cc)
        | inr q ↦ set n ∙ ap (λ b. cond b (Some (length rows + 2)) (known n)) (ne_eqb (number_of x) n q) ∙ e
      ]

  after-here : after (number_of x) ≡ Some (length rows + 2)
  after-here = set (number_of x) ∙ ap (λ b. cond b (Some (length rows + 2)) (known (number_of x))) (eq-eqb (number_of x) (number_of x) refl)

  after-cases : (n k : ℕ) → after n ≡ Some k → ((number_of x ≡ n) × (k ≡ length rows + 2)) ⊎ (known n ≡ Some k)
  after-cases n k e =
      elim (cases_eq (number_of x) n) [
        | inl q ↦ inl (q, same_Some k (length rows + 2) (sym e ∙ ap after (sym q) ∙ after-here))
        | inr q ↦ inr (sym (ap (λ b. cond b (Some (length rows + 2)) (known n)) (ne_eqb (number_of x) n q)) ∙ sym (set n) ∙ e)
      ]

  low_in : low_number < length rows + 2
  low_in = shown-in_range t rows known p low low_number shows_low

  high_in : high_number < length rows + 2
  high_in = shown-in_range t rows known p high high_number shows_high

  grown-at : row_at grown (length rows + 2) ≡ Some new
  grown-at = row-at grown (length rows) new (slice_get-append_last rows new (length rows) refl)

  grown-cases : (number : ℕ) (row : Row) → row_at grown number ≡ Some row → (row_at rows number ≡ Some row) ⊎ ((number ≡ length rows + 2) × (new ≡ row))
  grown-cases number row at =
      let le = row-from_two grown number row at in
      elim (slice_get-append_cases rows new row (number - 2) (sym (at-row grown number le) ∙ at)) [
        | inl q ↦ inl (at-row rows number le ∙ q.1)
        | inr q ↦ inr (omega (arith, q.0), q.1)
      ]

  grown-below : AreBelow grown
  grown-below = record {
    low = λ number row at. elim (grown-cases number row at) [ inl q ↦ p.below.low number row q | inr q ↦ omega (arith, q.0, low_in, ap (λ r. r.low) q.1) ];
    high = λ number row at. elim (grown-cases number row at) [ inl q ↦ p.below.high number row q | inr q ↦ omega (arith, q.0, high_in, ap (λ r. r.high) q.1) ];
  }

  old-value : (number : ℕ) → number < length rows + 2 → AreSame (meaning_at grown number) (meaning_at rows number)
  old-value number lt c = value_of-append rows (new ∷ []) c number grown-below lt

  new-value : AreSame (value x) (meaning_at grown (length rows + 2))
  new-value c =
      split c
      ∙ (λ i. cond (c option) (sym (old-value high_number high_in c ∙ shown-value t rows known p high high_number has_high shows_high c) i) (sym (old-value low_number low_in c ∙ shown-value t rows known p low low_number has_low shows_low c) i))
      ∙ sym (meaning-row grown (length rows + 2) new grown-below grown-at c)

  new-length : length grown ≡ length rows + 1
  new-length = length-append rows (new ∷ [])

  grown-shown : (n number : ℕ) → after n ≡ Some number → IsShown t grown n number
  grown-shown n number e =
      elim (after-cases n number e) [
        | inl q ↦ record {
          x = x;
          has = has;
          numbered = q.0;
          is_row = omega (arith, q.0);
          from_two = omega (arith, q.1);
          in_range = omega (arith, q.1, new-length);
          valued = λ c. new-value c ∙ ap (λ k. meaning_at grown k c) (sym q.1);
        }
        | inr q ↦ let s = p.shown n number q in record {
          x = s.x;
          has = s.has;
          numbered = s.numbered;
          is_row = s.is_row;
          from_two = s.from_two;
          in_range = omega (arith, s.in_range, new-length);
          valued = λ c. s.valued c ∙ sym (old-value number s.in_range c);
        }
      ]

  grown-injective : (n other number : ℕ) → after n ≡ Some number → after other ≡ Some number → n ≡ other
  grown-injective n other number e d =
      elim (after-cases n number e) [
        | inl q ↦ elim (after-cases other number d) [
          | inl r ↦ sym q.0 ∙ r.0
          | inr r ↦ absurd (omega (arith, q.1, (p.shown other number r).in_range))
        ]
        | inr q ↦ elim (after-cases other number d) [
          | inl r ↦ absurd (omega (arith, r.1, (p.shown n number q).in_range))
          | inr r ↦ p.injective n other number q r
        ]
      ]

  new-of : IsOfRow t after (length rows) new
  new-of = record {
    n = number_of x;
    at = after-here;
    low = low;
    high = high;
    has_low = has_low;
    has_high = has_high;
    shows_low = shows-keeps known after after-keeps low low_number shows_low;
    shows_high = shows-keeps known after after-keeps high high_number shows_high;
    written = written;
    apart = apart;
    low_rises = low_rises;
    high_rises = high_rises;
  }

  grown-onto : (i : ℕ) (row : Row) → slice_get grown i ≡ Some row → IsOfRow t after i row
  grown-onto i row e =
      elim (slice_get-append_cases rows new row i e) [
        | inl q ↦ let r = p.onto i row q.1 in record {
          n = r.n;
          at = after-keeps r.n (i + 2) r.at;
          low = r.low;
          high = r.high;
          has_low = r.has_low;
          has_high = r.has_high;
          shows_low = shows-keeps known after after-keeps r.low row.low r.shows_low;
          shows_high = shows-keeps known after after-keeps r.high row.high r.shows_high;
          written = r.written;
          apart = r.apart;
          low_rises = r.low_rises;
          high_rises = r.high_rises;
        }
        | inr q ↦ subst (λ (k : ℕ). IsOfRow t after k row) (sym q.0) (subst (IsOfRow t after (length rows)) q.1 new-of)
      ]

  pub grown-printing : IsPrinting t grown after
  grown-printing = record { below = grown-below; shown = grown-shown; injective = grown-injective; onto = grown-onto }

  pub grown-here : after (number_of x) ≡ Some (length rows + 2)
  grown-here = after-here

  pub grown-keeps : (n k : ℕ) → known n ≡ Some k → after n ≡ Some k
  grown-keeps = after-keeps

  pub grown-adds : (n k : ℕ) → after n ≡ Some k → (number_of x ≡ n) ⊎ (known n ≡ Some k)
  grown-adds n k e = elim (after-cases n k e) [ inl q ↦ inl q.0 | inr q ↦ inr q ]

  pub grown-row : row_at grown (length rows + 2) ≡ Some new
  grown-row = grown-at

-- a row, printed behind its low and its high part
module _ (t : Table) (q : Bor (Unit {0})) (n : ℕ) (o : OptionNo) (lo hi : Cond) (has : Has t (Row' q n o lo hi)) (rows rows1 rows2 : List Row) (k0 k1 k2 k3 : ℕ → Option ℕ) (ml mh : ℕ)
    (fresh : k0 n ≡ None) (low : IsPrintStep t rows rows1 k0 k1 lo ml) (high : IsPrintStep t rows1 rows2 k1 k2 hi mh)
    (set : (m : ℕ) → k3 m ≡ cond (eqb n m) (Some (length rows2 + 2)) (k2 m)) where
  abbrev row : Row
  row = record { option = o.0; low = ml; high = mh }

  abbrev x : Cond
  x = Row' q n o lo hi

  none-by : (r : Option ℕ) → k2 n ≡ r → k2 n ≡ None
  none-by None e = e
  none-by (Some j) e =
      elim (high.adds n j e) [
        | inr le ↦ absurd (omega (arith, has.0.high_before))
        | inl a ↦ elim (low.adds n j a) [
          | inr le ↦ absurd (omega (arith, has.0.low_before))
          | inl b ↦ let z = sym fresh ∙ b in absurd (cc)
        ]
      ]

  absent2 : k2 n ≡ None
  absent2 = none-by (k2 n) refl

  low-shows : Shows k2 lo ml
  low-shows = shows-keeps k1 k2 high.keeps lo ml low.shows

  pub printed-new : IsPrinting t (rows2 ++ row ∷ []) k3
  printed-new =
      grown-printing t rows2 k2 k3 high.printing x lo hi o.0 has has.0.numbered has.1 has.2 has.0.written has.0.apart has.0.low_rises has.0.high_rises (λ c. refl) ml mh low-shows high.shows absent2 set

  keeps2 : (m k : ℕ) → k2 m ≡ Some k → k3 m ≡ Some k
  keeps2 =
      grown-keeps t rows2 k2 k3 high.printing x lo hi o.0 has has.0.numbered has.1 has.2 has.0.written has.0.apart has.0.low_rises has.0.high_rises (λ c. refl) ml mh low-shows high.shows absent2 set

  here : k3 n ≡ Some (length rows2 + 2)
  here =
      grown-here t rows2 k2 k3 high.printing x lo hi o.0 has has.0.numbered has.1 has.2 has.0.written has.0.apart has.0.low_rises has.0.high_rises (λ c. refl) ml mh low-shows high.shows absent2 set

  at-new : row_at (rows2 ++ row ∷ []) (length rows2 + 2) ≡ Some row
  at-new =
      grown-row t rows2 k2 k3 high.printing x lo hi o.0 has has.0.numbered has.1 has.2 has.0.written has.0.apart has.0.low_rises has.0.high_rises (λ c. refl) ml mh low-shows high.shows absent2 set

  adds2 : (m k : ℕ) → k3 m ≡ Some k → (k0 m ≡ Some k) ⊎ (m ≤ n)
  adds2 m k e =
      elim (grown-adds t rows2 k2 k3 high.printing x lo hi o.0 has has.0.numbered has.1 has.2 has.0.written has.0.apart has.0.low_rises has.0.high_rises (λ c. refl) ml mh low-shows high.shows absent2 set m k e) [
        | inl same_n ↦ inr (omega arith)
        | inr a ↦ elim (high.adds m k a) [
          | inr le ↦ inr (omega (arith, has.0.high_before))
          | inl b ↦ elim (low.adds m k b) [
            | inr le ↦ inr (omega (arith, has.0.low_before))
            | inl d ↦ inl d
          ]
        ]
      ]

  whole : rows2 ++ row ∷ [] ≡ rows ++ (low.more ++ (high.more ++ row ∷ []))
  whole =
      ap (λ l. l ++ row ∷ []) high.appended ∙ append_assoc rows1 high.more (row ∷ [])
      ∙ ap (λ l. l ++ (high.more ++ row ∷ [])) low.appended ∙ append_assoc rows low.more (high.more ++ row ∷ [])

  low-walk : Walks (rows2 ++ row ∷ []) (length rows) ml (length rows1)
  low-walk =
      subst (λ (l : List Row). Walks l (length rows) ml (length rows1)) (sym (append_assoc rows1 high.more (row ∷ [])) ∙ ap (λ l. l ++ row ∷ []) (sym high.appended))
      (walks-append rows1 (high.more ++ row ∷ []) (length rows) ml (length rows1) low.walked)

  high-walk : Walks (rows2 ++ row ∷ []) (length rows1) mh (length rows2 + 2 - 2)
  high-walk =
      let back : length rows2 ≡ length rows2 + 2 - 2 = omega arith in
      subst (λ (e : ℕ). Walks (rows2 ++ row ∷ []) (length rows1) mh e) back (walks-append rows2 (row ∷ []) (length rows1) mh (length rows2) high.walked)

  row-walk : Walks (rows2 ++ row ∷ []) (length rows) (length rows2 + 2) (length (rows2 ++ row ∷ []))
  row-walk =
      let after : length rows2 + 2 - 1 ≡ length (rows2 ++ row ∷ []) = omega (arith, length-append rows2 (row ∷ [])) in
      let grew : length rows ≤ length rows2 = omega (arith, ap length low.appended, length-append rows low.more, ap length high.appended, length-append rows1 high.more) in
      subst (λ (e : ℕ). Walks (rows2 ++ row ∷ []) (length rows) (length rows2 + 2) e) after
      (takes (length rows) (length rows1) (length rows2 + 2) row at-new (omega arith) low-walk high-walk)

  pub step-row : (rows3 : List Row) (number : ℕ) → rows3 ≡ rows2 ++ row ∷ [] → number ≡ length rows2 + 2 → IsPrintStep t rows rows3 k0 k3 x number
  step-row rows3 number pushed numbered =
      subst (λ (l : List Row). IsPrintStep t rows l k0 k3 x number) (sym pushed)
      (subst (λ (m : ℕ). IsPrintStep t rows (rows2 ++ row ∷ []) k0 k3 x m) (sym numbered)
      (record {
        printing = printed-new;
        more = low.more ++ (high.more ++ row ∷ []);
        appended = whole;
        keeps = λ m k e. keeps2 m k (high.keeps m k (low.keeps m k e));
        adds = adds2;
        shows = here;
        walked = row-walk;
      }))

-- ---- the list of conditions

-- the first conditions have their numbers
pub record Listed (t : Table) (conds : List Cond) (rows : List Row) (known : ℕ → Option ℕ) (numbers : List ℕ) : Type 0 where
  pub printing : IsPrinting t rows known
  pub shows : (i number : ℕ) (x : Cond) → slice_get numbers i ≡ Some number → slice_get conds i ≡ Some x → Shows known x number
  pub walked : WalksAll rows 0 numbers (length rows)

walks_all-append : (rows more : List Row) (count : ℕ) (numbers : List ℕ) (after : ℕ) → WalksAll rows count numbers after → WalksAll (rows ++ more) count numbers after
walks_all-append rows more count [] after w = w
walks_all-append rows more count (n ∷ ns) after w = (w.0, walks-append rows more count n w.0 w.1, walks_all-append rows more w.0 ns after w.2)

walks_all-push : (rows : List Row) (count : ℕ) (numbers : List ℕ) (between number after : ℕ) → WalksAll rows count numbers between → Walks rows between number after → WalksAll rows count (numbers ++ number ∷ []) after
walks_all-push rows count [] between number after w step = (after, subst (λ (c : ℕ). Walks rows c number after) (sym w) step, refl)
walks_all-push rows count (n ∷ ns) between number after w step = (w.0, w.1, walks_all-push rows w.0 ns between number after w.2 step)

pub listed-init : (t : Table) (conds : List Cond) (known : ℕ → Option ℕ) → ((n : ℕ) → known n ≡ None) → Listed t conds [] known []
listed-init t conds known none = record {
  printing = record {
    below = record { low = λ n row at. absurd (omega (arith, row-in_range [] n row at, row-from_two [] n row at)); high = λ n row at. absurd (omega (arith, row-in_range [] n row at, row-from_two [] n row at)) };
    shown = λ n k e. let z = sym (none n) ∙ e in absurd (cc);
    injective = λ n m k e d. let z = sym (none n) ∙ e in absurd (cc);
    onto = λ i row e. absurd (cc);
  };
  shows = λ i n x e d. absurd (cc);
  walked = refl;
}

pub listed-next : (t : Table) (conds : List Cond) (rows rows1 : List Row) (k0 k1 : ℕ → Option ℕ) (numbers more : List ℕ) (x : Cond) (number : ℕ) → Listed t conds rows k0 numbers
    → slice_get conds (length numbers) ≡ Some x → IsPrintStep t rows rows1 k0 k1 x number → more ≡ numbers ++ number ∷ [] → Listed t conds rows1 k1 more
listed-next t conds rows rows1 k0 k1 numbers more x number l at s pushed = record {
  printing = s.printing;
  shows = λ i k y e d.
      elim (slice_get-append_cases numbers number k i (ap (λ ns. slice_get ns i) (sym pushed) ∙ e)) [
        | inl p ↦ shows-keeps k0 k1 s.keeps y k (l.shows i k y p.1 d)
        | inr q ↦
            let same_x = same_Some x y (sym at ∙ ap (slice_get conds) (sym q.0) ∙ d) in
            subst (λ (m : ℕ). Shows k1 y m) q.1 (subst (λ (z : Cond). Shows k1 z number) same_x s.shows)
      ];
  walked =
      subst (λ (ns : List ℕ). WalksAll rows1 0 ns (length rows1)) (sym pushed)
      (walks_all-push rows1 0 numbers (length rows) number (length rows1)
      (subst (λ (rs : List Row). WalksAll rs 0 numbers (length rows)) (sym s.appended) (walks_all-append rows s.more 0 numbers (length rows) l.walked)) s.walked);
}

-- the element of the mapped list comes from one of the list
from-map : (conds : List Cond) (i : ℕ) (f : Meaning) → slice_get (map value conds) i ≡ Some f → (x : Cond) × (slice_get conds i ≡ Some x) × (value x ≡ f)
from-map [] i f e = absurd (cc)
from-map (x ∷ xs) zero f e = (x, refl, same_Some (value x) f e)
from-map (x ∷ xs) (suc i) f e = from-map xs i f e

module _ (t : Table) (sound : IsSound t) (conds : List Cond) (had : AreHad t conds) (rows : List Row) (known : ℕ → Option ℕ) (numbers : List ℕ) (l : Listed t conds rows known numbers) (counted : length numbers ≡ length conds) where
  pub listed-printed : IsPrinted (map value conds) rows numbers
  listed-printed = record {
    reduced = printed-reduced t rows known l.printing sound;
    counted = counted ∙ sym (length-map conds value);
    in_range = λ i number e. let x = element conds i (omega (arith, slice_get_within numbers i number e)) in shown-in_range t rows known l.printing x.0 number (l.shows i number x.0 e x.1);
    valued = λ i number f e d c.
        let x = from-map conds i f d in
        shown-value t rows known l.printing x.0 number (had i x.0 x.1) (l.shows i number x.0 e x.1) c ∙ ap (λ g. g c) x.2;
    ordered = l.walked;
  }

  pub listed-options : AreOptionsBelow t.options rows
  listed-options = printed-options t rows known l.printing
