-- The numbers that truth values make.
use Rattle.std.proofs.Common.{◌≡◌, ℕ, suc, ◌+◌, ◌*◌, ◌^◌, ◌<◌, Bool, true, false, cond, not, ◌&&◌, ◌==◌, eqb, List, [], ◌∷◌, ◌++◌, length, map, refl, sym, ap, ◌∙◌, arith, inl, inr}
use Rattle.std.specs.List.{count_by}
use Rattle.std.specs.Prelude.{count_ones}
use Rattle.std.proofs.Math.Nat.{pow-succ'}
use Rattle.std.proofs.lemmas.Bool.{cases_eq, eq-eqb, ne_eqb, eqb-true, and_parts}
use Rattle.std.proofs.lemmas.Simd.{mask_l-lt, ones-mask_l}
use lib.Lanes.{mask_l}
use Rattle.loom_rows.specs.Condition.{Meaning, negation, both}
use Rattle.loom_active.specs.LiveSets.{mask_of}
use Rattle.loom_active.specs.LiveWork.{signed}

mask_is : (bits : List Bool) → mask_of bits ≡ mask_l bits
mask_is [] = refl
mask_is (bit ∷ bits) = ap (λ n. cond bit 1 0 + 2 * n) (mask_is bits)

pub mask_of-lt : (bits : List Bool) → mask_of bits < 2 ^ length bits
mask_of-lt bits = omega (arith, mask_is bits, mask_l-lt bits)

-- as many bits are set as values are true
pub mask_of-ones : {X : Type 0} (p : X → Bool) (xs : List X) → count_ones (mask_of (map p xs)) ≡ count_by p xs
mask_of-ones p xs = ap count_ones (mask_is (map p xs)) ∙ ones-mask_l p xs

-- a further value is the highest bit
pub mask_of-push : (bits : List Bool) (bit : Bool) → mask_of (bits ++ bit ∷ []) ≡ mask_of bits + cond bit (2 ^ length bits) 0
mask_of-push [] true = refl
mask_of-push [] false = refl
mask_of-push (b ∷ bits) true = omega (arith, mask_of-push bits true, pow-succ' 2 (length bits))
mask_of-push (b ∷ bits) false = omega (arith, mask_of-push bits false)

map-push : {A B : Type 0} (f : A → B) (xs : List A) (x : A) → map f (xs ++ x ∷ []) ≡ map f xs ++ f x ∷ []
map-push f [] x = refl
map-push f (y ∷ xs) x = ap (λ l. f y ∷ l) (map-push f xs x)

length-values : {A B : Type 0} (f : A → B) (xs : List A) → length (map f xs) ≡ length xs
length-values f [] = refl
length-values f (x ∷ xs) = ap suc (length-values f xs)

and_false : (b : Bool) → (b && false) ≡ false
and_false true = refl
and_false false = refl

and_true : (b : Bool) → (b && true) ≡ b
and_true true = refl
and_true false = refl

low_step : (a : Bool) (v m p : ℕ) (b : Bool) → v < p → m < p → (a && v + cond b p 0 == m) ≡ ((a && v == m) && not b)
low_step a v m p true v_lt m_lt = ap (λ t. a && t) (ne_eqb (v + p) m (λ e. absurd (omega arith))) ∙ and_false a ∙ sym (and_false (a && v == m))
low_step a v m p false v_lt m_lt = let e : v + 0 ≡ v = omega arith in ap (λ n. a && n == m) e ∙ sym (and_true (a && v == m))

eqb-shift : (v m p : ℕ) → eqb (v + p) (m + p) ≡ eqb v m
eqb-shift v m p = elim (cases_eq v m) [ inl e ↦ eq-eqb (v + p) (m + p) (omega arith) ∙ sym (eq-eqb v m e) | inr ne ↦ ne_eqb (v + p) (m + p) (λ e. ne (omega arith)) ∙ sym (ne_eqb v m ne) ]

high_step : (a : Bool) (v m p : ℕ) (b : Bool) → v < p → m < p → (a && v + cond b p 0 == m + p) ≡ ((a && v == m) && b)
high_step a v m p true v_lt m_lt = ap (λ t. a && t) (eqb-shift v m p) ∙ sym (and_true (a && v == m))
high_step a v m p false v_lt m_lt = ap (λ t. a && t) (ne_eqb (v + 0) (m + p) (λ e. absurd (omega arith))) ∙ and_false a ∙ sym (and_false (a && v == m))

module _ (valid : Meaning) (fs : List Meaning) (f : Meaning) (c : ℕ → Bool) where
  abbrev bits : List Bool
  bits = map (λ g. g c) fs

  bits-lt : mask_of bits < 2 ^ length fs
  bits-lt = omega (arith, mask_of-lt bits, ap (λ n. 2 ^ n) (length-values (λ (g : Meaning). g c) fs))

  bits-push : mask_of (map (λ g. g c) (fs ++ f ∷ [])) ≡ mask_of bits + cond (f c) (2 ^ length fs) 0
  bits-push = ap mask_of (map-push (λ (g : Meaning). g c) fs f) ∙ mask_of-push bits (f c) ∙ ap (λ n. mask_of bits + cond (f c) (2 ^ n) 0) (length-values (λ (g : Meaning). g c) fs)

  -- a mask without the further bit: the formulas so far have its signs, and the further one doesn't hold
  pub signed-low : (m : ℕ) → m < 2 ^ length fs → signed valid (fs ++ f ∷ []) m c ≡ both (signed valid fs m) (negation f) c
  signed-low m lt = ap (λ n. valid c && n == m) bits-push ∙ low_step (valid c) (mask_of bits) m (2 ^ length fs) (f c) bits-lt lt

  -- a mask with it: the further one holds
  pub signed-high : (m : ℕ) → m < 2 ^ length fs → signed valid (fs ++ f ∷ []) (m + 2 ^ length fs) c ≡ both (signed valid fs m) f c
  signed-high m lt = ap (λ n. valid c && n == m + 2 ^ length fs) bits-push ∙ high_step (valid c) (mask_of bits) m (2 ^ length fs) (f c) bits-lt lt

  -- where a pattern's mask holds, it is that of the formulas' values, and the choice is valid
  pub signed-is : (m : ℕ) → signed valid fs m c ≡ true → (valid c ≡ true) × (mask_of bits ≡ m)
  signed-is m e = let p = and_parts (valid c) (mask_of bits == m) e in (p.0, eqb-true (mask_of bits) m p.1)

  pub signed-below : (m : ℕ) → signed valid fs m c ≡ true → m < 2 ^ length fs
  signed-below m e = omega (arith, (signed-is m e).1, bits-lt)
