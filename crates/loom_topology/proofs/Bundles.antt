-- Bundles of cavities at the points of a tree, over plain functions: a mask at each point (0: no bundle) and a known bound.
use Rattle.std.proofs.Common.{ℕ, zero, suc, cond, eqb, ◌≡◌, ◌≢◌, ◌+◌, ◌-◌, ◌*◌, ◌<◌, ◌≤◌, min, bit_and, bit_or, refl, arith, inl, inr, sym, ◌∙◌, mul-le-mul_left, zero-add}
use Rattle.std.specs.Int.{sum_through, bit_at}
use Rattle.std.proofs.lemmas.Bool.{cases_eq, eq-eqb, ne_eqb, cond-true, cond-false}
use Rattle.std.proofs.lemmas.Nat.{or_disjoint, and_comm}
use Rattle.std.proofs.lemmas.Nat.Bits.{same_from_bits, bit_at_and, bit_at_or, bit_at-zero}
use Rattle.loom_topology.proofs.Sums.{sum_through-put_le, sum_through-put, part-le-sum_through}

-- the union of two disjoint masks is apart from what both are apart from
pub add-apart : (a b c : ℕ) → bit_and a b ≡ 0 → bit_and a c ≡ 0 → bit_and b c ≡ 0 → bit_and (a + b) c ≡ 0
add-apart a b c ab ac bc =
    let union : bit_or a b ≡ a + b = or_disjoint a b ab in
    rw (← union) (same_from_bits (bit_and (bit_or a b) c) 0 (λ i.
    let x : bit_at (bit_and a c) i ≡ 0 = rw ac (bit_at-zero i) in
    let y : bit_at (bit_and b c) i ≡ 0 = rw bc (bit_at-zero i) in
    omega (arith, bit_at_and a c i, bit_at_and b c i, bit_at_and (bit_or a b) c i, bit_at_or a b i, bit_at-zero i, x, y)))

-- f, with x at q
abbrev pub put : (ℕ → ℕ) → ℕ → ℕ → ℕ → ℕ
put f q x p = cond (eqb p q) x (f p)

pub put-same : (f : ℕ → ℕ) (q x : ℕ) → put f q x q ≡ x
put-same f q x = cond-true (eqb q q) x (f q) (eq-eqb q q refl)

pub put-other : (f : ℕ → ℕ) (q x p : ℕ) → p ≢ q → put f q x p ≡ f p
put-other f q x p other = cond-false (eqb p q) x (f p) (ne_eqb p q other)

-- each bundle has its bound, and the bundles are disjoint
pub record Bundled (Q : ℕ → ℕ → ℕ → Type 0) (n : ℕ) (M B : ℕ → ℕ) : Type 0 where
  pub known : (p : ℕ) → p ≤ n → 0 < M p → Q p (M p) (B p)
  pub apart : (p q : ℕ) → p ≤ n → q ≤ n → p ≢ q → bit_and (M p) (M q) ≡ 0

-- two bundles at one point become one
pub record Merges (total n : ℕ) (w : ℕ → ℕ) (Q : ℕ → ℕ → ℕ → Type 0) : Type 0 where
  pub merge : (p a b r s : ℕ) → p ≤ n → 0 < a → 0 < b → bit_and a b ≡ 0 → a + b ≤ total
      → Q p a r → Q p b s → Q p (a + b) (r + s + w p)
  pub weaken : (p m r s : ℕ) → r ≤ s → Q p m r → Q p m s

-- what a point with c further things is worth: its bound, and its branch cost for each thing past the first
abbrev pub worth : (ℕ → ℕ) → (ℕ → ℕ) → (ℕ → ℕ) → (ℕ → ℕ) → ℕ → ℕ
worth w c M B p = B p + w p * (c p + min (M p) 1 - 1)

worth_first : (B w c d m r : ℕ) → c ≡ suc d → 0 < m → r + w * (d + min (0 + m) 1 - 1) ≤ B + w * (c + min 0 1 - 1) + r
worth_first B w c d m r e some =
    let x : d + min (0 + m) 1 - 1 ≡ d = omega arith in
    let y : c + min 0 1 - 1 ≡ d = omega arith in
    rw (x, y) (omega arith)

worth_more : (B w c d a m r : ℕ) → c ≡ suc d → 0 < a
    → (B + r + w) + w * (d + min (a + m) 1 - 1) ≤ B + w * (c + min a 1 - 1) + r
worth_more B w c d a m r e some =
    let x : d + min (a + m) 1 - 1 ≡ d = omega arith in
    let y : c + min a 1 - 1 ≡ suc d = omega arith in
    rw (x, y) (omega arith)

-- the bundles after a bundle m with the bound r has come to a point
pub record Absorbed (Q : ℕ → ℕ → ℕ → Type 0) (n : ℕ) (w c d M B : ℕ → ℕ) (m r : ℕ) : Type 0 where
  pub masks : ℕ → ℕ
  pub bounds : ℕ → ℕ
  pub bundled : Bundled Q n masks bounds
  pub union : sum_through masks n ≡ sum_through M n + m
  pub cheap : sum_through (worth w d masks bounds) n ≤ sum_through (worth w c M B) n + r

-- the bound of a bundle a once another with the bound r has come to it
abbrev grown : ℕ → ℕ → ℕ → ℕ → ℕ
grown zero b r w = r
grown (suc a) b r w = b + r + w

joined : (Q : ℕ → ℕ → Type 0) (a b m r w : ℕ) → 0 < m
    → ((s : ℕ) → 0 < a → Q a s → Q (a + m) (s + r + w)) → (0 < a → Q a b) → Q m r → Q (a + m) (grown a b r w)
joined Q zero b m r w some merge old new = rw zero-add new
joined Q (suc a) b m r w some merge old new = merge b (omega arith) (old (omega arith))

grown_worth : (B w c d a m r : ℕ) → c ≡ suc d → 0 < m
    → grown a B r w + w * (d + min (a + m) 1 - 1) ≤ B + w * (c + min a 1 - 1) + r
grown_worth B w c d zero m r e some = worth_first B w c d m r e some
grown_worth B w c d (suc a) m r e some = worth_more B w c d (suc a) m r e (omega arith)

module _ (Q : ℕ → ℕ → ℕ → Type 0) (total n : ℕ) (w c d M B : ℕ → ℕ) (q m r : ℕ)
    (merges : Merges total n w Q) (old : Bundled Q n M B) (within : q ≤ n) (some : 0 < m) (new : Q q m r)
    (aside : (p : ℕ) → p ≤ n → bit_and m (M p) ≡ 0) (fits : sum_through M n + m ≤ total)
    (fewer : c q ≡ suc (d q)) (others : (p : ℕ) → p ≤ n → p ≢ q → d p ≤ c p) where
  abbrev masks_after : ℕ → ℕ
  masks_after = put M q (M q + m)

  abbrev bounds_after : ℕ → ℕ
  bounds_after = put B q (grown (M q) (B q) r (w q))

  known_after : (p : ℕ) → p ≤ n → 0 < masks_after p → Q p (masks_after p) (bounds_after p)
  known_after p below some_p =
      elim (cases_eq p q) [
        | inl e ↦
            let part : M q ≤ sum_through M n = part-le-sum_through n q M within in
            let at_q : Q q (M q + m) (grown (M q) (B q) r (w q)) =
            joined (Q q) (M q) (B q) m r (w q) some
            (λ s some_a known. merges.merge q (M q) m s r within some_a some (and_comm (M q) m ∙ aside q within) (omega arith) known new)
            (old.known q within) new in
            rw (e, put-same M q (M q + m), put-same B q (grown (M q) (B q) r (w q))) at_q
        | inr other ↦
            let some_old : 0 < M p = rw (put-other M q (M q + m) p other) at some_p in
            rw (put-other M q (M q + m) p other, put-other B q (grown (M q) (B q) r (w q)) p other) (old.known p below some_old)
      ]

  apart_after : (p k : ℕ) → p ≤ n → k ≤ n → p ≢ k → bit_and (masks_after p) (masks_after k) ≡ 0
  apart_after p k p_below k_below different =
      elim (cases_eq p q) [
        | inl e ↦
            let other : k ≢ q = λ f. different (e ∙ sym f) in
            rw (put-other M q (M q + m) k other, e, put-same M q (M q + m))
            (add-apart (M q) m (M k) (and_comm (M q) m ∙ aside q within) (old.apart q k within k_below (λ f. other (sym f))) (aside k k_below))
        | inr other ↦ elim (cases_eq k q) [
          | inl f ↦
              rw (put-other M q (M q + m) p other, f, put-same M q (M q + m), and_comm (M p) (M q + m))
              (add-apart (M q) m (M p) (and_comm (M q) m ∙ aside q within) (old.apart q p within p_below (λ g. other (sym g))) (aside p p_below))
          | inr another ↦
              rw (put-other M q (M q + m) p other, put-other M q (M q + m) k another) (old.apart p k p_below k_below different)
        ]
      ]

  pub absorb : Absorbed Q n w c d M B m r
  absorb =
      let sums : sum_through masks_after n + M q ≡ sum_through M n + masks_after q =
      sum_through-put n q masks_after M within (λ p below other. put-other M q (M q + m) p other) in
      let at_q : masks_after q ≡ M q + m = put-same M q (M q + m) in
      let bound_q : bounds_after q ≡ grown (M q) (B q) r (w q) = put-same B q (grown (M q) (B q) r (w q)) in
      let here : worth w d masks_after bounds_after q ≤ worth w c M B q + r =
      rw (at_q, bound_q) (grown_worth (B q) (w q) (c q) (d q) (M q) m r fewer some) in
      let worths : sum_through (worth w d masks_after bounds_after) n + worth w c M B q
      ≤ sum_through (worth w c M B) n + worth w d masks_after bounds_after q =
      sum_through-put_le n q (worth w d masks_after bounds_after) (worth w c M B) within (λ p below other.
      let x : masks_after p ≡ M p = put-other M q (M q + m) p other in
      let y : bounds_after p ≡ B p = put-other B q (grown (M q) (B q) r (w q)) p other in
      let less : d p + min (M p) 1 - 1 ≤ c p + min (M p) 1 - 1 = omega (arith, others p below other) in
      rw (x, y) (omega (arith, mul-le-mul_left (w p) less))) in
      record {
        masks = masks_after;
        bounds = bounds_after;
        bundled = record { known = known_after; apart = apart_after };
        union = omega arith;
        cheap = omega arith;
      }
