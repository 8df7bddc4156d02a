-- What one more end adds to the cost of points.
use Rattle.std.proofs.Common.{ℕ, ◌≡◌, ◌+◌, ◌-◌, ◌*◌, ◌≤◌, ◌==◌, true, false, cond, ◌||◌, List, [], ◌∷◌, inl, inr, refl, sym, ap, ap₂, ◌∙◌, arith, sum_by, count_by}
use Rattle.std.specs.List.{list_any}
use Rattle.std.proofs.lemmas.Bool.{cases_Bool, cond-true, cond-false, false≢true, false_from_ne_true, ne_eqb}
use Rattle.std.proofs.lemmas.List.Sums.{sum_by-cons}
use Rattle.loom_topology.specs.Topology.{TopologyView, branch_at, price_at}
use Rattle.loom_types.specs.WireCost.{Point, CavityPoint, SplicePoint, PinPoint, is_same_point, distinct_points, point_cost}
use Rattle.loom_types.proofs.EndTests.{same_point-true, same_point-refl}
use Rattle.loom_types.proofs.Tallies.{one_if}
use Rattle.loom_audit.specs.PointCounts.{cost_with}

-- the cost of points
abbrev pub points_cost : TopologyView → List Point → ℕ
points_cost topology ps = sum_by (point_cost topology ps) (distinct_points ps)

pub count-cons : (q p : Point) (ps : List Point) → count_by (is_same_point q) (p ∷ ps) ≡ one_if (is_same_point q p) + count_by (is_same_point q) ps
count-cons q p ps = sum_by-cons (λ x. cond (is_same_point q x) 1 0) p ps

turned : (p q : Point) → is_same_point q p ≡ false → is_same_point p q ≡ false
turned p q other =
    false_from_ne_true (is_same_point p q) (λ same.
    let e : p ≡ q = same_point-true p q same in
    false≢true (sym other ∙ ap (λ x. is_same_point q x) e ∙ same_point-refl q))

-- a point that is nowhere counts none, one that is somewhere at least one
none-counted : (q : Point) (ps : List Point) → list_any (is_same_point q) ps ≡ false → count_by (is_same_point q) ps ≡ 0
none-counted q [] none = refl
none-counted q (p ∷ ps) none = elim (cases_Bool (is_same_point q p)) [
  | inl same ↦ absurd (false≢true (sym none ∙ ap (λ b. b || list_any (is_same_point q) ps) same))
  | inr other ↦
      let rest : list_any (is_same_point q) ps ≡ false = sym (ap (λ b. b || list_any (is_same_point q) ps) other) ∙ none in
      let no : one_if (is_same_point q p) ≡ 0 = ap one_if other in
      omega (arith, count-cons q p ps, no, none-counted q ps rest)
]

some-counted : (q : Point) (ps : List Point) → list_any (is_same_point q) ps ≡ true → 1 ≤ count_by (is_same_point q) ps
some-counted q [] some = absurd (false≢true some)
some-counted q (p ∷ ps) some = elim (cases_Bool (is_same_point q p)) [
  | inl same ↦
      let one : one_if (is_same_point q p) ≡ 1 = ap one_if same in
      omega (arith, count-cons q p ps, one)
  | inr other ↦
      let rest : list_any (is_same_point q) ps ≡ true = sym (ap (λ b. b || list_any (is_same_point q) ps) other) ∙ some in
      omega (arith, count-cons q p ps, some-counted q ps rest)
]

-- among points that are each there once, it is there once or not at all
once : (q : Point) (ps : List Point) → count_by (is_same_point q) (distinct_points ps) ≡ one_if (list_any (is_same_point q) ps)
once q [] = refl
once q (p ∷ ps) =
    let rest = once q ps in
    let D = distinct_points ps in
    elim (cases_Bool (list_any (is_same_point p) ps)) [
      | inl known ↦
          let skips : distinct_points (p ∷ ps) ≡ D = cond-true (list_any (is_same_point p) ps) D (p ∷ D) known in
          elim (cases_Bool (is_same_point q p)) [
            | inl same ↦
                let e : q ≡ p = same_point-true q p same in
                let some : list_any (is_same_point q) ps ≡ true = ap (λ x. list_any (is_same_point x) ps) e ∙ known in
                ap (count_by (is_same_point q)) skips ∙ rest ∙ ap one_if some
                ∙ sym (ap (λ b. one_if (b || list_any (is_same_point q) ps)) same)
            | inr other ↦
                ap (count_by (is_same_point q)) skips ∙ rest
                ∙ sym (ap (λ b. one_if (b || list_any (is_same_point q) ps)) other)
          ]
      | inr new ↦
          let adds : distinct_points (p ∷ ps) ≡ p ∷ D = cond-false (list_any (is_same_point p) ps) D (p ∷ D) new in
          let both : count_by (is_same_point q) (distinct_points (p ∷ ps)) ≡ one_if (is_same_point q p) + one_if (list_any (is_same_point q) ps) = ap (count_by (is_same_point q)) adds ∙ count-cons q p D ∙ ap (λ n. one_if (is_same_point q p) + n) rest in
          elim (cases_Bool (is_same_point q p)) [
            | inl same ↦
                let e : q ≡ p = same_point-true q p same in
                let none : list_any (is_same_point q) ps ≡ false = ap (λ x. list_any (is_same_point x) ps) e ∙ new in
                both
                ∙ ap₂ (λ a b. one_if a + one_if b) same none
                ∙ sym (ap (λ b. one_if (b || list_any (is_same_point q) ps)) same)
            | inr other ↦
                let no : one_if (is_same_point q p) ≡ 0 = ap one_if other in
                let here : one_if (is_same_point q p || list_any (is_same_point q) ps) ≡ one_if (list_any (is_same_point q) ps) =
                ap (λ b. one_if (b || list_any (is_same_point q) ps)) other in
                omega (arith, both, no, here)
          ]
    ]

no-times : (a b : ℕ) → 0 + 0 * a ≡ 0 + 0 * b
no-times a b = omega arith

zero-times : (a : ℕ) → 0 * a ≡ 0
zero-times a = omega arith

once-more : (n a : ℕ) → (1 + n) * a ≡ a + n * a
once-more n a = omega arith

-- two sums of numbers that differ at one point alone
differ-at : (g h : Point → ℕ) (q : Point) → ((p : Point) → is_same_point q p ≡ false → h p ≡ g p) → (xs : List Point)
    → sum_by h xs + count_by (is_same_point q) xs * g q ≡ sum_by g xs + count_by (is_same_point q) xs * h q
differ-at g h q else_same [] = no-times (g q) (h q)
differ-at g h q else_same (x ∷ xs) =
    let rest = differ-at g h q else_same xs in
    let n = count_by (is_same_point q) xs in
    elim (cases_Bool (is_same_point q x)) [
      | inl same ↦
          let e : q ≡ x = same_point-true q x same in
          let more : count_by (is_same_point q) (x ∷ xs) ≡ 1 + n = count-cons q x xs ∙ ap (λ b. one_if b + n) same in
          let gx : g x ≡ g q = ap g (sym e) in
          let hx : h x ≡ h q = ap h (sym e) in
          let left : count_by (is_same_point q) (x ∷ xs) * g q ≡ g q + n * g q = ap (λ (k : ℕ). k * g q) more ∙ once-more n (g q) in
          let right : count_by (is_same_point q) (x ∷ xs) * h q ≡ h q + n * h q = ap (λ (k : ℕ). k * h q) more ∙ once-more n (h q) in
          omega (arith, sum_by-cons h x xs, sum_by-cons g x xs, gx, hx, left, right, rest)
      | inr other ↦
          let no : one_if (is_same_point q x) ≡ 0 = ap one_if other in
          let more : count_by (is_same_point q) (x ∷ xs) ≡ n = omega (arith, count-cons q x xs, no) in
          let hx : h x ≡ g x = else_same x other in
          let left : count_by (is_same_point q) (x ∷ xs) * g q ≡ n * g q = ap (λ k. k * g q) more in
          let right : count_by (is_same_point q) (x ∷ xs) * h q ≡ n * h q = ap (λ k. k * h q) more in
          omega (arith, sum_by-cons h x xs, sum_by-cons g x xs, hx, left, right, rest)
    ]

-- the cost of a point at which ends lie
cost-at : (topology : TopologyView) (q : Point) (ps : List Point) (n : ℕ) → count_by (is_same_point q) ps ≡ n → 1 ≤ n
    → point_cost topology ps q ≡ cost_with topology n q
cost-at topology (CavityPoint c) ps n is some = refl
cost-at topology (SplicePoint v j) ps n is some = ap (λ (k : ℕ). (k - 2) * branch_at topology v) is
cost-at topology (PinPoint x p) ps n is some =
    sym (cond-false (n == 0) 0 (price_at topology x) (ne_eqb n 0 (λ e. omega (arith, e, some))))

none-costs : (topology : TopologyView) (q : Point) → cost_with topology 0 q ≡ 0
none-costs topology (CavityPoint c) = refl
none-costs topology (SplicePoint v j) = zero-times (branch_at topology v)
none-costs topology (PinPoint x p) = refl

-- another point costs what it did
other-same : (topology : TopologyView) (q p : Point) (ps : List Point) → is_same_point q p ≡ false → point_cost topology (q ∷ ps) p ≡ point_cost topology ps p
other-same topology q (CavityPoint c) ps other = refl
other-same topology q (SplicePoint v j) ps other =
    let no : one_if (is_same_point (SplicePoint v j) q) ≡ 0 = ap one_if (turned (SplicePoint v j) q other) in
    let count : count_by (is_same_point (SplicePoint v j)) (q ∷ ps) ≡ count_by (is_same_point (SplicePoint v j)) ps =
    omega (arith, count-cons (SplicePoint v j) q ps, no) in
    ap (λ (k : ℕ). (k - 2) * branch_at topology v) count
other-same topology q (PinPoint x p) ps other = refl

-- one more end adds what so many ends cost more
pub cost_more : (topology : TopologyView) (q : Point) (ps : List Point) (before added : ℕ) → before ≡ count_by (is_same_point q) ps
    → added + cost_with topology before q ≡ cost_with topology (before + 1) q
    → points_cost topology (q ∷ ps) ≡ points_cost topology ps + added
cost_more topology q ps before added was adds =
    let g = point_cost topology ps in
    let h = point_cost topology (q ∷ ps) in
    let D = distinct_points ps in
    let now : count_by (is_same_point q) (q ∷ ps) ≡ before + 1 =
    count-cons q q ps ∙ ap (λ b. one_if b + count_by (is_same_point q) ps) (same_point-refl q) ∙ omega (arith, was) in
    let hq : h q ≡ cost_with topology (before + 1) q = cost-at topology q (q ∷ ps) (before + 1) now (omega arith) in
    let sums = differ-at g h q (λ p other. other-same topology q p ps other) D in
    elim (cases_Bool (list_any (is_same_point q) ps)) [
      | inl known ↦
          let skips : sum_by h (distinct_points (q ∷ ps)) ≡ sum_by h D = ap (sum_by h) (cond-true (list_any (is_same_point q) ps) D (q ∷ D) known) in
          let one : count_by (is_same_point q) D ≡ 1 = once q ps ∙ ap one_if known in
          let gq : g q ≡ cost_with topology before q = cost-at topology q ps before (sym was) (omega (arith, was, some-counted q ps known)) in
          let left : count_by (is_same_point q) D * g q ≡ g q = ap (λ (k : ℕ). k * g q) one ∙ omega arith in
          let right : count_by (is_same_point q) D * h q ≡ h q = ap (λ (k : ℕ). k * h q) one ∙ omega arith in
          omega (arith, skips, sums, left, right, gq, hq, adds)
      | inr new ↦
          let more : sum_by h (distinct_points (q ∷ ps)) ≡ h q + sum_by h D =
          ap (sum_by h) (cond-false (list_any (is_same_point q) ps) D (q ∷ D) new) ∙ sum_by-cons h q D in
          let none : count_by (is_same_point q) D ≡ 0 = once q ps ∙ ap one_if new in
          let zero_before : before ≡ 0 = was ∙ none-counted q ps new in
          let free : cost_with topology before q ≡ 0 = ap (λ (k : ℕ). cost_with topology k q) zero_before ∙ none-costs topology q in
          let left : count_by (is_same_point q) D * g q ≡ 0 = ap (λ (k : ℕ). k * g q) none ∙ zero-times (g q) in
          let right : count_by (is_same_point q) D * h q ≡ 0 = ap (λ (k : ℕ). k * h q) none ∙ zero-times (h q) in
          omega (arith, more, sums, left, right, free, hq, adds)
    ]
