-- How many conditions have a property, counted by the rows of a table.
use Rattle.std.proofs.Common.{◌≡◌, ℕ, zero, suc, ◌-◌, ◌<◌, ◌≤◌, ◌⊎◌, inl, inr, List, [], ◌∷◌, length, Some, slice_get, refl, sym, ap, subst, ◌∙◌, arith}
use Rattle.std.proofs.lemmas.Bool.{cases_lt}
use Rattle.std.proofs.lemmas.Option.{same_Some}
use Rattle.indexmap.proofs.IndexTableLemmas.Probe.{pigeonhole}
use Rattle.loom_rows.specs.declared.cond.Cond.{Cond, Never, Always, Row'}
use Rattle.loom_rows.specs.Condition.{Meaning, value, number_of}
use Rattle.loom_rows.specs.Table.{Table, Has, IsSound}
use Rattle.loom_rows.specs.Leftovers.{AreSame, IsOpen, IsRowOf, AreApart, AreExactly, AreMoreThan, IsIn, StandsFor}
use Rattle.loom_rows.proofs.Conditions.{same, same_value, same_number, number-below}

-- ---- lists by index

zero_below : (n : ℕ) → 0 < suc n
zero_below n = omega arith

suc_below : (i n : ℕ) → i < n → suc i < suc n
suc_below i n lt = omega arith

-- the list of n elements with this element at each index
pub listing : {A : Type 0} (n : ℕ) → ((i : ℕ) → i < n → A) → List A
listing zero f = []
listing (suc n) f = f 0 (zero_below n) ∷ listing n (λ i lt. f (suc i) (suc_below i n lt))

pub length-listing : {A : Type 0} (n : ℕ) (f : (i : ℕ) → i < n → A) → length (listing n f) ≡ n
unfolding listing
length-listing zero f = refl
length-listing (suc n) f = ap suc (length-listing n (λ i lt. f (suc i) (suc_below i n lt)))

pub listing-at : {A : Type 0} (n : ℕ) (f : (i : ℕ) → i < n → A) (i : ℕ) (x : A) → slice_get (listing n f) i ≡ Some x → (lt : i < n) × (f i lt ≡ x)
unfolding listing
listing-at zero f i x e = absurd (cc)
listing-at (suc n) f zero x e = (zero_below n, same_Some _ x e)
listing-at (suc n) f (suc i) x e = let r = listing-at n (λ i lt. f (suc i) (suc_below i n lt)) i x e in (suc_below i n r.0, r.1)

pub listing-has : {A : Type 0} (n : ℕ) (f : (i : ℕ) → i < n → A) (i : ℕ) → i < n → (lt : i < n) × (slice_get (listing n f) i ≡ Some (f i lt))
unfolding listing
listing-has zero f i lt = absurd (omega arith)
listing-has (suc n) f zero lt = (zero_below n, refl)
listing-has (suc n) f (suc i) lt = let r = listing-has n (λ i lt. f (suc i) (suc_below i n lt)) i (omega arith) in (suc_below i n r.0, r.1)

-- every index of a list has an element
pub element : {A : Type 0} (xs : List A) (i : ℕ) → i < length xs → (x : A) × (slice_get xs i ≡ Some x)
element [] i lt = absurd (omega arith)
element (x ∷ xs) zero lt = (x, refl)
element (x ∷ xs) (suc i) lt = element xs i (omega arith)

-- numbers below m that differ at different indices below n are at most m
pick : (n : ℕ) → ((i : ℕ) → i < n → ℕ) → (i : ℕ) → (i < n) ⊎ (n ≤ i) → ℕ
pick n f i (inl lt) = f i lt
pick n f i (inr le) = 0

pick-at : (n : ℕ) (f : (i : ℕ) → i < n → ℕ) (i : ℕ) (d : (i < n) ⊎ (n ≤ i)) → i < n → (lt : i < n) × (pick n f i d ≡ f i lt)
unfolding pick
pick-at n f i (inl lt) p = (lt, refl)
pick-at n f i (inr le) p = absurd (omega arith)

pub pigeons : (n m : ℕ) (f : (i : ℕ) → i < n → ℕ) → ((i : ℕ) (p : i < n) → f i p < m) → ((i j : ℕ) (p : i < n) (q : j < n) → f i p ≡ f j q → i ≡ j) → n ≤ m
pigeons n m f into apart =
    pigeonhole n m (λ i. pick n f i (cases_lt i n))
    (λ i p. let r = pick-at n f i (cases_lt i n) p in omega (arith, into i r.0))
    (λ i j p q e.
    let r = pick-at n f i (cases_lt i n) p in
    let s = pick-at n f j (cases_lt j n) q in
    apart i j r.0 s.0 (sym r.1 ∙ e ∙ s.1))

-- ---- the rows of a table

module _ (t : Table) (sound : IsSound t) where
  -- a row is neither always true nor always false
  pub row-open : (x : Cond) → Has t x → 2 ≤ number_of x → IsOpen (value x)
  row-open x has le = (
    λ e. let n = same_number t.options t.rows sound.distinct x Always has tt (same e) in omega arith,
    λ e. let n = same_number t.options t.rows sound.distinct x Never has tt (same e) in omega arith,
  )

  -- and what is neither is a row
  pub open-row : (g : Meaning) → IsOpen g → (x : Cond) → Has t x → AreSame g (value x) → 2 ≤ number_of x
  open-row g o Never has e = absurd (o.1 e)
  open-row g o Always has e = absurd (o.0 e)
  open-row g o (Row' p n q low high) has e = has.0.numbered

  abbrev row_at : (i : ℕ) → i < length t.rows → Meaning
  row_at i lt = value (sound.whole i lt).0

  row_at-open : (i : ℕ) (lt : i < length t.rows) → IsOpen (row_at i lt)
  row_at-open i lt = let x = sound.whole i lt in row-open x.0 x.1 (omega (arith, x.2))

  row_at-apart : (i j : ℕ) (p : i < length t.rows) (q : j < length t.rows) → AreSame (row_at i p) (row_at j q) → i ≡ j
  row_at-apart i j p q e =
      let x = sound.whole i p in
      let y = sound.whole j q in
      omega (arith, x.2, y.2, same_number t.options t.rows sound.distinct x.0 y.0 x.1 y.1 (same e))

  pub rows-listed : List Meaning
  rows-listed = listing (length t.rows) row_at

  pub length-rows-listed : length rows-listed ≡ length t.rows
  unfolding rows-listed
  length-rows-listed = length-listing (length t.rows) row_at

  pub rows-apart : (P : Meaning → Type 0) → ((i : ℕ) (lt : i < length t.rows) → P (row_at i lt)) → AreApart P rows-listed
  unfolding rows-listed
  rows-apart P each = record {
    each = λ i g e. let r = listing-at (length t.rows) row_at i g e in subst P r.1 (each i r.0);
    apart = λ i j g h p q e.
        let r = listing-at (length t.rows) row_at i g p in
        let s = listing-at (length t.rows) row_at j h q in
        row_at-apart i j r.0 s.0 (λ c. ap (λ f. f c) r.1 ∙ e c ∙ sym (ap (λ f. f c) s.1));
  }

  -- each condition that is open and in the table is listed
  pub rows-complete : (g : Meaning) → IsOpen g → IsIn t g → (i : ℕ) × (h : Meaning) × (slice_get rows-listed i ≡ Some h) × AreSame g h
  unfolding rows-listed
  rows-complete g o (x, has, e) =
      let n = open-row g o x has e in
      let lt : number_of x - 2 < length t.rows = omega (arith, number-below t.options t.rows x has) in
      let r = listing-has (length t.rows) row_at (number_of x - 2) lt in
      let y = sound.whole (number_of x - 2) r.0 in
      let v = same_value t.options t.rows x y.0 has y.1 (omega (arith, y.2)) in
      (number_of x - 2, row_at (number_of x - 2) r.0, r.1, λ c. e c ∙ ap (λ f. f c) v)

  -- a table that stands for a list has exactly its rows
  pub rows-counted : (fs : List Meaning) → StandsFor t fs → AreExactly (length t.rows) (IsRowOf fs)
  rows-counted fs stands = record {
    listed = rows-listed;
    different = rows-apart (IsRowOf fs) (λ i lt. let x = sound.whole i lt in (row_at-open i lt, stands.only x.0 x.1 (row_at-open i lt)));
    complete = λ g r. rows-complete g r.0 (stands.all g r);
    counted = length-rows-listed;
  }

  -- no more different conditions than rows are open and in the table
  pub no-more : (n : ℕ) (P : Meaning → Type 0) → length t.rows ≤ n → ((g : Meaning) → P g → IsOpen g × IsIn t g) → AreMoreThan n P → ⊥
  no-more n P le into m =
      let at : (i : ℕ) → i < length m.listed → (g : Meaning) × (slice_get m.listed i ≡ Some g) = λ i lt. element m.listed i lt in
      let found : (i : ℕ) (lt : i < length m.listed) → IsOpen (at i lt).0 × IsIn t (at i lt).0 = λ i lt. into (at i lt).0 (m.different.each i (at i lt).0 (at i lt).1) in
      let number : (i : ℕ) → i < length m.listed → ℕ = λ i lt. number_of (found i lt).1.0 - 2 in
      let rowed : (i : ℕ) (lt : i < length m.listed) → 2 ≤ number_of (found i lt).1.0 = λ i lt. open-row (at i lt).0 (found i lt).0 (found i lt).1.0 (found i lt).1.1 (found i lt).1.2 in
      let few = pigeons (length m.listed) (length t.rows) number
      (λ i p. omega (arith, number-below t.options t.rows (found i p).1.0 (found i p).1.1, rowed i p))
      (λ i j p q e.
      let x = (found i p).1 in
      let y = (found j q).1 in
      let v = same_value t.options t.rows x.0 y.0 x.1 y.1 (omega (arith, rowed i p, rowed j q)) in
      m.different.apart i j (at i p).0 (at j q).0 (at i p).1 (at j q).1 (λ c. x.2 c ∙ ap (λ f. f c) v ∙ sym (y.2 c))) in
      omega (arith, m.many)

  -- with a further condition that the table lacks there are more than its rows
  pub one-more : (P : Meaning → Type 0) → ((i : ℕ) (lt : i < length t.rows) → P (row_at i lt)) → (g : Meaning) → P g → (IsIn t g → ⊥) → AreMoreThan (length t.rows) P
  unfolding rows-listed
  one-more P each g p absent =
      let lacks : (i : ℕ) (h : Meaning) → slice_get rows-listed i ≡ Some h → AreSame g h → ⊥ = λ i h at e.
      let r = listing-at (length t.rows) row_at i h at in
      let x = sound.whole i r.0 in
      absent (x.0, x.1, λ c. e c ∙ sym (ap (λ f. f c) r.1)) in
      record {
        listed = g ∷ rows-listed;
        different = more-apart P g p (rows-listed) (rows-apart P each) lacks;
        many = omega (arith, length-rows-listed);
      }
    where
      more-apart : (P : Meaning → Type 0) (g : Meaning) → P g → (gs : List Meaning) → AreApart P gs → ((i : ℕ) (h : Meaning) → slice_get gs i ≡ Some h → AreSame g h → ⊥) → AreApart P (g ∷ gs)
      more-apart P g p gs a lacks = record { each = each-of; apart = apart-of }
        where
          each-of : (i : ℕ) (h : Meaning) → slice_get (g ∷ gs) i ≡ Some h → P h
          each-of zero h e = subst P (same_Some g h e) p
          each-of (suc i) h e = a.each i h e

          apart-of : (i j : ℕ) (h k : Meaning) → slice_get (g ∷ gs) i ≡ Some h → slice_get (g ∷ gs) j ≡ Some k → AreSame h k → i ≡ j
          apart-of zero zero h k p q e = refl
          apart-of zero (suc j) h k p q e = absurd (lacks j k q (λ c. ap (λ f. f c) (same_Some g h p) ∙ e c))
          apart-of (suc i) zero h k p q e = absurd (lacks i h p (λ c. ap (λ f. f c) (same_Some g k q) ∙ sym (e c)))
          apart-of (suc i) (suc j) h k p q e = ap suc (a.apart i j h k p q e)
