-- The index of rows: what a look-up in its entries tells of the table.
use Rattle.std.proofs.Common.{◌≡◌, ℕ, zero, suc, ◌+◌, inl, inr, Bool, true, cond, ◌&&◌, List, [], ◌∷◌, ◌++◌, length, Option, Some, None, slice_get, refl, sym, ap, subst, ◌∙◌, eqb, IfSome, IfNone}
use Rattle.std.proofs.lemmas.Bool.{eqb-true, eq-eqb, and_parts, and_from, cases_Bool}
use Rattle.std.proofs.lemmas.Option.{same_Some}
use Rattle.std.proofs.lemmas.Map.Entries.{place_from_lookup, length-keys_of}
use Rattle.std.specs.Map.{keys_of, lookup}
use Rattle.indexmap.specs.IndexMap.{insert_entry}
use Rattle.indexmap.proofs.MapLemmas.{insert_entry-absent, absent_from_lookup}
use Rattle.loom_rows.specs.declared.cond.Cond.{Cond}
use Rattle.loom_rows.specs.Condition.{number_of}
use Rattle.loom_rows.specs.Table.{Triple, Table, Has}
use Rattle.loom_rows.specs.Outcome.{IsFound, IsMissing}
use Rattle.loom_rows.proofs.Conditions.{stands-append}
use Rattle.loom_rows.proofs.Made.{slice_get-append_cases, with_row}

-- what `==` of two keys returns
abbrev pub key_eq : Triple → Triple → Bool
key_eq x y = (eqb x.0 y.0 && eqb x.1 y.1) && eqb x.2 y.2

pub key_eq-true : (x y : Triple) → key_eq x y ≡ true → x ≡ y
key_eq-true x y h =
    let p = and_parts (eqb x.0 y.0 && eqb x.1 y.1) (eqb x.2 y.2) h in
    let q = and_parts (eqb x.0 y.0) (eqb x.1 y.1) p.0 in
    let a = eqb-true x.0 y.0 q.0 in
    let b = eqb-true x.1 y.1 q.1 in
    let c = eqb-true x.2 y.2 p.1 in
    λ i. (a i, b i, c i)

pub key_eq-same : (x : Triple) → key_eq x x ≡ true
key_eq-same x = and_from _ _ (and_from _ _ (eq-eqb x.0 x.0 refl) (eq-eqb x.1 x.1 refl)) (eq-eqb x.2 x.2 refl)

pub keys_of-append : {K X : Type 0} (es : List (K × X)) (k : K) (x : X) → keys_of (es ++ (k, x) ∷ []) ≡ keys_of es ++ k ∷ []
keys_of-append [] k x = refl
keys_of-append (e ∷ es) k x = ap (λ l. e.0 ∷ l) (keys_of-append es k x)

pub slice_get-keys : {K X : Type 0} (es : List (K × X)) (i : ℕ) (k : K) (x : X) → slice_get es i ≡ Some (k, x) → slice_get (keys_of es) i ≡ Some k
slice_get-keys [] i k x h = absurd (cc)
slice_get-keys (e ∷ es) zero k x h = ap (λ p. Some p.0) (same_Some e (k, x) h)
slice_get-keys (e ∷ es) (suc i) k x h = slice_get-keys es i k x h

-- a look-up that finds nothing passes no key
pub lookup-none : {K X : Type 0} (test : K → Bool) (es : List (K × X)) (i : ℕ) (k : K) → lookup test es ≡ None → slice_get (keys_of es) i ≡ Some k → test k ≡ true → ⊥
lookup-none test [] i k none at passes = absurd (cc)
lookup-none test (e ∷ es) zero k none at passes =
    let t : test e.0 ≡ true = ap test (same_Some e.0 k at) ∙ passes in
    let s = sym (ap (λ b. cond b (Some e.1) (lookup test es)) t) ∙ none in
    absurd (cc)
lookup-none test (e ∷ es) (suc i) k none at passes =
    elim (cases_Bool (test e.0)) [
      | inl t ↦ let s = sym (ap (λ b. cond b (Some e.1) (lookup test es)) t) ∙ none in absurd (cc)
      | inr f ↦ lookup-none test es i k (sym (ap (λ b. cond b (Some e.1) (lookup test es)) f) ∙ none) at passes
    ]

-- the entries stand for the table's rows
pub record IsIndexOf (t : Table) (es : List (Triple × Cond)) : Type 0 where
  pub keyed : t.rows ≡ keys_of es
  pub kept : (i : ℕ) (row : Triple) (x : Cond) → slice_get es i ≡ Some (row, x) → Has t x × (number_of x ≡ i + 2)

module _ (t : Table) (es : List (Triple × Cond)) (index : IsIndexOf t es) (key : Triple) where
  pub found-some : (r : Option Cond) → r ≡ lookup (key_eq key) es → IfSome r (IsFound t key)
  found-some None e = tt
  found-some (Some x) e =
      let p = place_from_lookup (key_eq key) es x (sym e) in
      let k = key_eq-true key p.1 p.3 in
      let h = index.kept p.0 p.1 x p.2 in
      (p.0, ap (λ rs. slice_get rs p.0) index.keyed ∙ slice_get-keys es p.0 p.1 x p.2 ∙ ap Some (sym k), h.0, h.1)

  pub found-none : (r : Option Cond) → r ≡ lookup (key_eq key) es → IfNone r (IsMissing t key)
  found-none None e = λ i at. lookup-none (key_eq key) es i key (sym e) (sym (ap (λ rs. slice_get rs i) index.keyed) ∙ at) (key_eq-same key)
  found-none (Some x) e = tt

  pub none-missing : IsMissing t key → lookup (key_eq key) es ≡ None
  none-missing missing = by (lookup (key_eq key) es) refl (found-some (lookup (key_eq key) es) refl)
    where
      by : (r : Option Cond) → lookup (key_eq key) es ≡ r → IfSome (lookup (key_eq key) es) (IsFound t key) → lookup (key_eq key) es ≡ None
      by None e s = e
      by (Some x) e s = let f = subst (λ (r : Option Cond). IfSome r (IsFound t key)) e s in absurd (missing f.0 f.1)

-- the index with one more entry
module _ (t : Table) (at : ℕ) (low high : Cond) (es more : List (Triple × Cond)) (index : IsIndexOf t es) (key : Triple) (x : Cond)
    (key_is : key ≡ (at, number_of low, number_of high)) (inserted : more ≡ insert_entry key_eq es key x) (missing : IsMissing t (at, number_of low, number_of high)) where
  entries-added : more ≡ es ++ (key, x) ∷ []
  entries-added = inserted ∙ insert_entry-absent key_eq key x es (absent_from_lookup (key_eq key) es (none-missing t es index key (subst (IsMissing t) (sym key_is) missing)))

  pub table-added : (options limit : ℕ) → t.options ≡ options → t.limit ≡ limit → with_row t at low high ≡ record { options = options; limit = limit; rows = keys_of more }
  table-added options limit o l =
      let rows : t.rows ++ (at, number_of low, number_of high) ∷ [] ≡ keys_of more =
      (λ i. index.keyed i ++ sym key_is i ∷ []) ∙ sym (keys_of-append es key x) ∙ ap keys_of (sym entries-added) in
      λ i. record { options = o i; limit = l i; rows = rows i }

  pub kept-added : Has (with_row t at low high) x → number_of x ≡ length t.rows + 2 → (i : ℕ) (row : Triple) (y : Cond) → slice_get more i ≡ Some (row, y) → Has (with_row t at low high) y × (number_of y ≡ i + 2)
  kept-added has number i row y h =
      elim (slice_get-append_cases es (key, x) (row, y) i (ap (λ l. slice_get l i) (sym entries-added) ∙ h)) [
        | inl p ↦ let k = index.kept i row y p.1 in (stands-append t.options t.rows _ y k.0, k.1)
        | inr q ↦
            let e : x ≡ y = ap (λ p. p.1) q.1 in
            let n : length t.rows ≡ i = ap length index.keyed ∙ length-keys_of es ∙ sym q.0 in
            (subst (Has (with_row t at low high)) e has, sym (ap number_of e) ∙ number ∙ ap (λ k. k + 2) n)
      ]
