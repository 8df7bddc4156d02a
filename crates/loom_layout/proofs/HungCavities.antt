-- One more cavity of a mask is hung.
use Rattle.std.proofs.Common.{ℕ, zero, suc, List, [], ◌∷◌, length, set, slice_index, cond, ◌==◌, ◌≡◌, ◌+◌, ◌/◌, ◌%◌, ◌^◌, ◌<◌, ◌≤◌, arith, refl, sym, ◌∙◌, ap, subst, inl, inr}
use Rattle.std.specs.List.{AllZip}
use Rattle.std.specs.Int.{bit_at}
use Rattle.std.proofs.lemmas.Bool.{cases_eq, cond-false, ne_eqb}
use Rattle.std.proofs.lemmas.Nat.Bits.{bit_at_lowest, bit_at-suc}
use Rattle.std.proofs.lemmas.List.Sums.{sum_by-cons}
use Rattle.loom_topology.specs.Legal.{chosen}
use Rattle.loom_topology.proofs.Hangs.{hung_at, chosen-one, chosen-none}

pub chosen-zero : (xs : List ℕ) → chosen xs 0 ≡ []
chosen-zero [] = refl
chosen-zero (x ∷ xs) = chosen-none x xs 0 refl ∙ chosen-zero xs

hung_at-cons : (h : ℕ) (hs : List ℕ) (p : ℕ) → hung_at (h ∷ hs) p ≡ cond (h == p) 1 0 + hung_at hs p
hung_at-cons h hs p = sum_by-cons (λ x. cond (x == p) 1 0) h hs

-- a point past all on which cavities hang has none
pub hung_at-past : (R : ℕ → ℕ → Type 0) (n p : ℕ) → ((c h : ℕ) → R c h → h ≤ n) → n < p → (cs hs : List ℕ) → AllZip R cs hs
    → hung_at hs p ≡ 0
hung_at-past R n p within past [] [] zip = refl
hung_at-past R n p within past [] (h ∷ hs) zip = absurd zip
hung_at-past R n p within past (c ∷ cs) [] zip = absurd zip
hung_at-past R n p within past (c ∷ cs) (h ∷ hs) zip =
    let below : h ≤ n = within c h zip.0 in
    let apart : h ≡ p → ⊥ = λ e. omega (arith, e) in
    let none : ◌≡◌ {A = ℕ} (cond (h == p) 1 0) 0 = cond-false (h == p) 1 0 (ne_eqb h p apart) in
    omega (arith, none, hung_at-cons h hs p, hung_at-past R n p within past cs hs zip.1)

-- the two ways in which a choice from two lists goes on
module _ (R : ℕ → ℕ → Type 0) (c x : ℕ) (cs xs : List ℕ) (mask : ℕ) where
  zip_one : mask % 2 ≡ 1 → R c x → AllZip R (chosen cs (mask / 2)) (chosen xs (mask / 2))
      → AllZip R (chosen (c ∷ cs) mask) (chosen (x ∷ xs) mask)
  zip_one odd here rest =
      let both : AllZip R (c ∷ chosen cs (mask / 2)) (x ∷ chosen xs (mask / 2)) = (here, rest) in
      subst (λ l. AllZip R l (chosen (x ∷ xs) mask)) (sym (chosen-one c cs mask odd))
      (subst (λ l. AllZip R (c ∷ chosen cs (mask / 2)) l) (sym (chosen-one x xs mask odd)) both)

  of_one : mask % 2 ≡ 1 → AllZip R (chosen (c ∷ cs) mask) (chosen (x ∷ xs) mask)
      → R c x × AllZip R (chosen cs (mask / 2)) (chosen xs (mask / 2))
  of_one odd zip =
      subst (λ l. AllZip R (c ∷ chosen cs (mask / 2)) l) (chosen-one x xs mask odd)
      (subst (λ l. AllZip R l (chosen (x ∷ xs) mask)) (chosen-one c cs mask odd) zip)

  zip_none : mask % 2 ≡ 0 → AllZip R (chosen cs (mask / 2)) (chosen xs (mask / 2))
      → AllZip R (chosen (c ∷ cs) mask) (chosen (x ∷ xs) mask)
  zip_none even rest =
      subst (λ l. AllZip R l (chosen (x ∷ xs) mask)) (sym (chosen-none c cs mask even))
      (subst (λ l. AllZip R (chosen cs (mask / 2)) l) (sym (chosen-none x xs mask even)) rest)

  of_none : mask % 2 ≡ 0 → AllZip R (chosen (c ∷ cs) mask) (chosen (x ∷ xs) mask)
      → AllZip R (chosen cs (mask / 2)) (chosen xs (mask / 2))
  of_none even zip =
      subst (λ l. AllZip R (chosen cs (mask / 2)) l) (chosen-none x xs mask even)
      (subst (λ l. AllZip R l (chosen (x ∷ xs) mask)) (chosen-none c cs mask even) zip)

half_more : (mask i : ℕ) → (mask + 2 ^ suc i) / 2 ≡ mask / 2 + 2 ^ i
half_more mask i = omega arith

low_more : (mask i : ℕ) → (mask + 2 ^ suc i) % 2 ≡ mask % 2
low_more mask i = omega arith

half_first : (mask : ℕ) → mask % 2 ≡ 0 → (mask + 2 ^ 0) / 2 ≡ mask / 2
half_first mask even = omega (arith, even)

low_first : (mask : ℕ) → mask % 2 ≡ 0 → (mask + 2 ^ 0) % 2 ≡ 1
low_first mask even = omega (arith, even)

-- the cavity of bit i comes to its point
pub zip_put : (R : ℕ → ℕ → Type 0) (cs xs : List ℕ) (mask i point : ℕ) → length xs ≡ length cs → i < length cs → bit_at mask i ≡ 0
    → R (slice_index cs i) point → AllZip R (chosen cs mask) (chosen xs mask)
    → AllZip R (chosen cs (mask + 2 ^ i)) (chosen (set xs i point) (mask + 2 ^ i))
zip_put R [] xs mask i point len within free here zip = absurd (omega (arith, within))
zip_put R (c ∷ cs) [] mask i point len within free here zip = absurd (omega (arith, len))
zip_put R (c ∷ cs) (x ∷ xs) mask zero point len within free here zip =
    let even : mask % 2 ≡ 0 = sym (bit_at_lowest mask) ∙ free in
    zip_one R c point cs xs (mask + 2 ^ 0) (low_first mask even) here
    (subst (λ m. AllZip R (chosen cs m) (chosen xs m)) (sym (half_first mask even)) (of_none R c x cs xs mask even zip))
zip_put R (c ∷ cs) (x ∷ xs) mask (suc i) point len within free here zip =
    let many : length xs ≡ length cs = omega (arith, len) in
    let inside : i < length cs = omega (arith, within) in
    let clear : bit_at (mask / 2) i ≡ 0 = sym (bit_at-suc mask i) ∙ free in
    elim (cases_eq (mask % 2) 1) [
      | inl odd ↦
          let parts = of_one R c x cs xs mask odd zip in
          zip_one R c x cs (set xs i point) (mask + 2 ^ suc i) (low_more mask i ∙ odd) parts.0
          (subst (λ m. AllZip R (chosen cs m) (chosen (set xs i point) m)) (sym (half_more mask i))
          (zip_put R cs xs (mask / 2) i point many inside clear here parts.1))
      | inr not_odd ↦
          let even : mask % 2 ≡ 0 = omega (arith, not_odd) in
          zip_none R c x cs (set xs i point) (mask + 2 ^ suc i) (low_more mask i ∙ even)
          (subst (λ m. AllZip R (chosen cs m) (chosen (set xs i point) m)) (sym (half_more mask i))
          (zip_put R cs xs (mask / 2) i point many inside clear here (of_none R c x cs xs mask even zip)))
    ]

-- and one cavity more hangs there
pub hung_put : (xs : List ℕ) (mask i point p : ℕ) → i < length xs → bit_at mask i ≡ 0
    → hung_at (chosen (set xs i point) (mask + 2 ^ i)) p ≡ hung_at (chosen xs mask) p + cond (point == p) 1 0
hung_put [] mask i point p within free = absurd (omega (arith, within))
hung_put (x ∷ xs) mask zero point p within free =
    let even : mask % 2 ≡ 0 = sym (bit_at_lowest mask) ∙ free in
    let left : chosen (point ∷ xs) (mask + 2 ^ 0) ≡ point ∷ chosen xs (mask / 2) =
    chosen-one point xs (mask + 2 ^ 0) (low_first mask even) ∙ ap (λ m. point ∷ chosen xs m) (half_first mask even) in
    ap (λ l. hung_at l p) left
    ∙ (hung_at-cons point (chosen xs (mask / 2)) p
    ∙ (omega arith
    ∙ ap (λ l. hung_at l p + cond (point == p) 1 0) (sym (chosen-none x xs mask even))))
hung_put (x ∷ xs) mask (suc i) point p within free =
    let inside : i < length xs = omega (arith, within) in
    let clear : bit_at (mask / 2) i ≡ 0 = sym (bit_at-suc mask i) ∙ free in
    let deeper = hung_put xs (mask / 2) i point p inside clear in
    elim (cases_eq (mask % 2) 1) [
      | inl odd ↦
          let left : chosen (x ∷ set xs i point) (mask + 2 ^ suc i) ≡ x ∷ chosen (set xs i point) (mask / 2 + 2 ^ i) =
          chosen-one x (set xs i point) (mask + 2 ^ suc i) (low_more mask i ∙ odd)
          ∙ ap (λ m. x ∷ chosen (set xs i point) m) (half_more mask i) in
          let more : hung_at (chosen (x ∷ set xs i point) (mask + 2 ^ suc i)) p
          ≡ cond (x == p) 1 0 + hung_at (chosen (set xs i point) (mask / 2 + 2 ^ i)) p =
          ap (λ l. hung_at l p) left ∙ hung_at-cons x (chosen (set xs i point) (mask / 2 + 2 ^ i)) p in
          let before : hung_at (chosen (x ∷ xs) mask) p ≡ cond (x == p) 1 0 + hung_at (chosen xs (mask / 2)) p =
          ap (λ l. hung_at l p) (chosen-one x xs mask odd) ∙ hung_at-cons x (chosen xs (mask / 2)) p in
          omega (arith, more, before, deeper)
      | inr not_odd ↦
          let even : mask % 2 ≡ 0 = omega (arith, not_odd) in
          let left : chosen (x ∷ set xs i point) (mask + 2 ^ suc i) ≡ chosen (set xs i point) (mask / 2 + 2 ^ i) =
          chosen-none x (set xs i point) (mask + 2 ^ suc i) (low_more mask i ∙ even)
          ∙ ap (λ m. chosen (set xs i point) m) (half_more mask i) in
          ap (λ l. hung_at l p) left
          ∙ (deeper ∙ ap (λ l. hung_at l p + cond (point == p) 1 0) (sym (chosen-none x xs mask even)))
    ]
