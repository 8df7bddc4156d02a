-- From bundles at the points of a tree to one bundle at point 0: the last point is taken away, again and again.
use Rattle.std.proofs.Common.{ℕ, zero, suc, ◌≡◌, ◌≢◌, ◌+◌, ◌-◌, ◌<◌, ◌≤◌, min, arith, inl, inr, subst, mul-le-mul_left}
use Rattle.std.specs.Int.{sum_through}
use Rattle.std.proofs.lemmas.Bool.{cases_eq}
use Rattle.loom_topology.proofs.Sums.{sum_through-le}
use Rattle.loom_topology.proofs.Bundles.{Bundled, Merges, Absorbed, absorb, worth}

-- step k adds point k + 1 to those below; c k p is what hangs at p of the first k steps, spent k their price
pub record Steps (total n : ℕ) (parent price spent : ℕ → ℕ) (c : ℕ → ℕ → ℕ) (Q : ℕ → ℕ → ℕ → Type 0) : Type 0 where
  pub before : (k : ℕ) → k < n → parent k ≤ k
  pub along : (k m r : ℕ) → k < n → 0 < m → m ≤ total → Q (suc k) m r → Q (parent k) m (r + price k)
  pub adds : (k : ℕ) → k < n → spent (suc k) ≡ spent k + price k
  pub here : (k : ℕ) → k < n → c (suc k) (parent k) ≡ suc (c k (parent k))
  pub elsewhere : (k p : ℕ) → k < n → p ≢ parent k → c (suc k) p ≡ c k p

module _ (total n : ℕ) (parent price spent : ℕ → ℕ) (c : ℕ → ℕ → ℕ) (w : ℕ → ℕ) (Q : ℕ → ℕ → ℕ → Type 0)
    (steps : Steps total n parent price spent c Q) (merges : Merges total n w Q) where
  fewer : (k : ℕ) → k < n → (p : ℕ) → c k p ≤ c (suc k) p
  fewer k h p =
      elim (cases_eq p (parent k)) [
        | inl e ↦ rw e (omega (arith, steps.here k h))
        | inr other ↦ omega (arith, steps.elsewhere k p h other)
      ]

  merges_below : (k : ℕ) → k ≤ n → Merges total k w Q
  merges_below k h = record {
    merge = λ p a b r s below. merges.merge p a b r s (omega arith);
    weaken = merges.weaken;
  }

  carried : (m k r s : ℕ) → m ≡ k → r ≤ s → Q 0 m r → Q 0 k s
  carried m k r s e h known = subst (λ mask. Q 0 mask s) e (merges.weaken 0 m r s h known)

  pub climb : (k : ℕ) (M B : ℕ → ℕ) → k ≤ n → Bundled Q k M B → 0 < sum_through M k → sum_through M k ≤ total
      → Q 0 (sum_through M k) (spent k + sum_through (worth w (c k) M B) k)
  climb zero M B h bundles some fits =
      merges.weaken 0 (M 0) (B 0) (spent 0 + worth w (c 0) M B 0) (omega arith) (bundles.known 0 (omega arith) some)
  climb (suc k) M B h bundles some fits =
      let inner : Bundled Q k M B = record {
        known = λ p below. bundles.known p (omega arith);
        apart = λ p q p_below q_below. bundles.apart p q (omega arith) (omega arith);
      } in
      let price_here : spent (suc k) ≡ spent k + price k = steps.adds k (omega arith) in
      elim (cases_eq (M (suc k)) 0) [
        | inl none ↦
            let cheaper : sum_through (worth w (c k) M B) k ≤ sum_through (worth w (c (suc k)) M B) k =
            sum_through-le k (worth w (c k) M B) (worth w (c (suc k)) M B) (λ p below.
            let less : c k p + min (M p) 1 - 1 ≤ c (suc k) p + min (M p) 1 - 1 = omega (arith, fewer k (omega arith) p) in
            omega (arith, mul-le-mul_left (w p) less)) in
            carried (sum_through M k) (sum_through M (suc k)) (spent k + sum_through (worth w (c k) M B) k)
            (spent (suc k) + sum_through (worth w (c (suc k)) M B) (suc k)) (omega arith) (omega arith)
            (climb k M B (omega arith) inner (omega arith) (omega arith))
        | inr some_last ↦
            let lifted : Q (parent k) (M (suc k)) (B (suc k) + price k) =
            steps.along k (M (suc k)) (B (suc k)) (omega arith) (omega arith) (omega arith)
            (bundles.known (suc k) (omega arith) (omega arith)) in
            let after : Absorbed Q k w (c (suc k)) (c k) M B (M (suc k)) (B (suc k) + price k) =
            absorb Q total k w (c (suc k)) (c k) M B (parent k) (M (suc k)) (B (suc k) + price k)
            (merges_below k (omega arith)) inner (steps.before k (omega arith)) (omega arith) lifted
            (λ p below. bundles.apart (suc k) p (omega arith) (omega arith) (omega arith)) (omega arith)
            (steps.here k (omega arith)) (λ p below other. fewer k (omega arith) p) in
            carried (sum_through after.masks k) (sum_through M (suc k)) (spent k + sum_through (worth w (c k) after.masks after.bounds) k)
            (spent (suc k) + sum_through (worth w (c (suc k)) M B) (suc k)) after.union (omega (arith, after.cheap))
            (climb k after.masks after.bounds (omega arith) after.bundled (omega (arith, after.union)) (omega (arith, after.union)))
      ]
