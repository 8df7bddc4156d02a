-- The cavities of a mask come to the points on which they hang, the lowest first.
use Rattle.std.proofs.Common.{ℕ, suc, List, [], ◌∷◌, length, slice_index, ◌==◌, cond, ◌≡◌, ◌≢◌, ◌+◌, ◌*◌, ◌/◌, ◌%◌, ◌^◌, ◌<◌, ◌≤◌, bit_and, count_by, arith, refl, sym, ◌∙◌, subst, inl, inr, pow_pos, add-zero, zero-mul}
use Rattle.std.specs.List.{AllZip}
use Rattle.std.specs.Int.{sum_through, bit_at}
use Rattle.std.proofs.lemmas.Bool.{cases_eq, cond-true, cond-false, eq-eqb, ne_eqb}
use Rattle.std.proofs.lemmas.Nat.{and_comm}
use Rattle.std.proofs.lemmas.Nat.Bits.{and_pow, bit_at_above}
use Rattle.std.proofs.lemmas.List.Sums.{sum_by-cons}
use Rattle.loom_topology.specs.Legal.{chosen}
use Rattle.loom_topology.proofs.Sums.{sum_through-le, part-le-sum_through}
use Rattle.loom_topology.proofs.Bundles.{Bundled, Merges, Absorbed, absorb, worth}

pub zip_cons : {X : Type 0} (R : X → ℕ → Type 0) (x : X) (xs : List X) (hs : List ℕ) → AllZip R (x ∷ xs) hs
    → (h : ℕ) × (rest : List ℕ) × (hs ≡ h ∷ rest) × R x h × AllZip R xs rest
zip_cons R x xs [] zip = absurd zip
zip_cons R x xs (h ∷ hs) zip = (h, hs, refl, zip.0, zip.1)

-- how many of the hangs are at a point
abbrev pub hung_at : List ℕ → ℕ → ℕ
hung_at hs p = count_by (λ h. h == p) hs

pub hung_at-same : (h : ℕ) (hs : List ℕ) → hung_at (h ∷ hs) h ≡ suc (hung_at hs h)
hung_at-same h hs =
    let one : ◌≡◌ {A = ℕ} (cond (h == h) 1 0) 1 = cond-true (h == h) 1 0 (eq-eqb h h refl) in
    omega (arith, one, sum_by-cons (λ x. cond (x == h) 1 0) h hs)

pub hung_at-other : (h : ℕ) (hs : List ℕ) (p : ℕ) → p ≢ h → hung_at (h ∷ hs) p ≡ hung_at hs p
hung_at-other h hs p other =
    let none : ◌≡◌ {A = ℕ} (cond (h == p) 1 0) 0 = cond-false (h == p) 1 0 (ne_eqb h p (λ e. other (sym e))) in
    omega (arith, none, sum_by-cons (λ x. cond (x == p) 1 0) h hs)

-- the two ways in which the choice goes on
pub chosen-one : (c : ℕ) (cs : List ℕ) (mask : ℕ) → mask % 2 ≡ 1 → chosen (c ∷ cs) mask ≡ c ∷ chosen cs (mask / 2)
chosen-one c cs mask e =
    cond-true (mask % 2 == 1) (c ∷ chosen cs (mask / 2)) (chosen cs (mask / 2)) (eq-eqb (mask % 2) 1 e)

pub chosen-none : (c : ℕ) (cs : List ℕ) (mask : ℕ) → mask % 2 ≡ 0 → chosen (c ∷ cs) mask ≡ chosen cs (mask / 2)
chosen-none c cs mask e =
    cond-false (mask % 2 == 1) (c ∷ chosen cs (mask / 2)) (chosen cs (mask / 2)) (ne_eqb (mask % 2) 1 (λ f. omega arith))

-- what a mask's bits come to, the first one taken away
shifted_bits : (mask half bit x y : ℕ) → mask ≡ 2 * half + bit → y ≡ 2 * x → half * y + bit * x ≡ mask * x
shifted_bits mask half bit x y e f = rw (e, f) (omega arith)

shifted : (mask i : ℕ) → (mask / 2) * 2 ^ suc i + (mask % 2) * 2 ^ i ≡ mask * 2 ^ i
shifted mask i = shifted_bits mask (mask / 2) (mask % 2) (2 ^ i) (2 ^ suc i) (omega arith) (omega arith)

pub pow_length : (c : ℕ) (cs : List ℕ) → 2 ^ length (c ∷ cs) ≡ 2 * 2 ^ length cs
pow_length c cs = let e : length (c ∷ cs) ≡ suc (length cs) = refl in rw e (omega arith)

-- the bundles after the mask's cavities have come
pub record Hung (Q : ℕ → ℕ → ℕ → Type 0) (n : ℕ) (w base M B : ℕ → ℕ) (gained : ℕ) (hs : List ℕ) : Type 0 where
  pub masks : ℕ → ℕ
  pub bounds : ℕ → ℕ
  pub bundled : Bundled Q n masks bounds
  pub union : sum_through masks n ≡ sum_through M n + gained
  pub cheap : sum_through (worth w base masks bounds) n ≤ sum_through (worth w (λ p. base p + hung_at hs p) M B) n

module _ (Q : ℕ → ℕ → ℕ → Type 0) (total n : ℕ) (w base : ℕ → ℕ) (R : ℕ → ℕ → Type 0) (merges : Merges total n w Q) where
  -- each cavity hung on a point in range is known there, for nothing
  abbrev pub Leaves : List ℕ → ℕ → Type 0
  Leaves cs i = (j h : ℕ) → j < length cs → R (slice_index cs j) h → (h ≤ n) × Q h (2 ^ (i + j)) 0

  Leaves-tail : (c : ℕ) (cs : List ℕ) (i : ℕ) → Leaves (c ∷ cs) i → Leaves cs (suc i)
  Leaves-tail c cs i leaves j h within r =
      let known : (h ≤ n) × Q h (2 ^ (i + suc j)) 0 = leaves (suc j) h (omega arith) r in
      let e : i + suc j ≡ suc i + j = omega arith in
      subst (λ k. (h ≤ n) × Q h (2 ^ k) 0) e known

  aside : (i p : ℕ) (M : ℕ → ℕ) → sum_through M n < 2 ^ i → p ≤ n → bit_and (2 ^ i) (M p) ≡ 0
  aside i p M low below =
      let part : M p ≤ sum_through M n = part-le-sum_through n p M below in
      let none : bit_at (M p) i ≡ 0 = bit_at_above (M p) i i (omega arith) (omega arith) in
      and_comm (2 ^ i) (M p) ∙ and_pow (M p) i ∙ rw none (zero-mul (2 ^ i))

  -- the lowest cavity comes
  arrives : (i h : ℕ) (rest : List ℕ) (M B : ℕ → ℕ) → h ≤ n → Q h (2 ^ i) 0 → sum_through M n < 2 ^ i
      → sum_through M n + 2 ^ i ≤ total → Bundled Q n M B
      → Absorbed Q n w (λ p. base p + hung_at (h ∷ rest) p) (λ p. base p + hung_at rest p) M B (2 ^ i) 0
  arrives i h rest M B below known low fits bundles =
      absorb Q total n w (λ p. base p + hung_at (h ∷ rest) p) (λ p. base p + hung_at rest p) M B h (2 ^ i) 0 merges bundles
      below (pow_pos i) known (λ p p_below. aside i p M low p_below) fits
      (omega (arith, hung_at-same h rest)) (λ p p_below other. omega (arith, hung_at-other h rest p other))

  -- then the others
  goes_on : (i h more gained : ℕ) (rest : List ℕ) (M B : ℕ → ℕ)
      → (one : Absorbed Q n w (λ p. base p + hung_at (h ∷ rest) p) (λ p. base p + hung_at rest p) M B (2 ^ i) 0)
      → Hung Q n w base one.masks one.bounds more rest → more + 2 ^ i ≡ gained → Hung Q n w base M B gained (h ∷ rest)
  goes_on i h more gained rest M B one others whole = record {
    masks = others.masks;
    bounds = others.bounds;
    bundled = others.bundled;
    union = omega (arith, others.union, one.union);
    cheap = omega (arith, others.cheap, one.cheap);
  }

  pub hang : (cs : List ℕ) (mask i : ℕ) (hs : List ℕ) (M B : ℕ → ℕ) → Leaves cs i → AllZip R (chosen cs mask) hs
      → mask < 2 ^ length cs → sum_through M n < 2 ^ i → sum_through M n + mask * 2 ^ i ≤ total → Bundled Q n M B
      → Hung Q n w base M B (mask * 2 ^ i) hs
  hang [] mask i [] M B leaves zip range low fits bundles =
      let none : mask ≡ 0 = omega arith in
      record {
        masks = M;
        bounds = B;
        bundled = bundles;
        union = rw none (omega arith);
        cheap = sum_through-le n (worth w base M B) (worth w (λ p. base p + 0) M B) (λ p below. rw add-zero (omega arith));
      }
  hang [] mask i (h ∷ hs) M B leaves zip range low fits bundles = absurd zip
  hang (c ∷ cs) mask i hs M B leaves zip range low fits bundles =
      let rest_range : mask / 2 < 2 ^ length cs = omega (arith, pow_length c cs) in
      let parts : (mask / 2) * 2 ^ suc i + (mask % 2) * 2 ^ i ≡ mask * 2 ^ i = shifted mask i in
      elim (cases_eq (mask % 2) 1) [
        | inr even ↦
            let none : mask % 2 ≡ 0 = omega arith in
            let more : (mask / 2) * 2 ^ suc i ≡ mask * 2 ^ i = omega (arith, rw none at parts) in
            let kept : AllZip R (chosen cs (mask / 2)) hs = subst (λ l. AllZip R l hs) (chosen-none c cs mask none) zip in
            subst (λ gained. Hung Q n w base M B gained hs) more
            (hang cs (mask / 2) (suc i) hs M B (Leaves-tail c cs i leaves) kept rest_range (omega arith) (omega arith) bundles)
        | inl odd ↦
            let more : (mask / 2) * 2 ^ suc i + 2 ^ i ≡ mask * 2 ^ i = omega (arith, rw odd at parts) in
            let kept : AllZip R (c ∷ chosen cs (mask / 2)) hs = subst (λ l. AllZip R l hs) (chosen-one c cs mask odd) zip in
            let (h, rest, e, r, zip_rest) = zip_cons R c (chosen cs (mask / 2)) hs kept in
            let leaf : (h ≤ n) × Q h (2 ^ (i + 0)) 0 = leaves 0 h (omega arith) r in
            let known : Q h (2 ^ i) 0 = subst (λ k. Q h (2 ^ k) 0) (add-zero i) leaf.1 in
            let one : Absorbed Q n w (λ p. base p + hung_at (h ∷ rest) p) (λ p. base p + hung_at rest p) M B (2 ^ i) 0 =
            arrives i h rest M B leaf.0 known low (omega arith) bundles in
            let others : Hung Q n w base one.masks one.bounds ((mask / 2) * 2 ^ suc i) rest =
            hang cs (mask / 2) (suc i) rest one.masks one.bounds (Leaves-tail c cs i leaves) zip_rest rest_range
            (omega (arith, one.union)) (omega (arith, one.union)) one.bundled in
            subst (λ l. Hung Q n w base M B (mask * 2 ^ i) l) (sym e)
            (goes_on i h ((mask / 2) * 2 ^ suc i) (mask * 2 ^ i) rest M B one others more)
      ]
