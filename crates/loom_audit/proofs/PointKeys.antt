-- Keys stand for points.
use Rattle.std.proofs.Common.{ℕ, ◌≡◌, ◌+◌, Bool, cond, List, ◌∷◌, Option, Some, unwrap_or, inl, inr, sym, ap, ◌∙◌, arith, count_by}
use Rattle.std.proofs.lemmas.Bool.{cases_Bool, cond-true, cond-false}
use Rattle.loom_types.specs.WireCost.{Point, CavityPoint, SplicePoint, PinPoint, is_same_point}
use Rattle.loom_types.proofs.EndTests.{same_point-true, same_point-refl}
use Rattle.loom_audit.specs.EndKeys.{is_same_key}
use Rattle.loom_audit.specs.PointCounts.{key_of_point}
use Rattle.loom_audit.proofs.KeyLemmas.{same_key-true, same_key-refl, same_bools}
use Rattle.loom_audit.proofs.PointCosts.{count-cons}

apart : (x y : ℕ × ℕ × ℕ × ℕ) → (x.0 ≡ y.0 → ⊥) → x ≡ y → ⊥
apart x y kinds same = kinds (ap (λ (k : ℕ × ℕ × ℕ × ℕ). k.0) same)

key_point : (p q : Point) → key_of_point p ≡ key_of_point q → p ≡ q
key_point (CavityPoint c) (CavityPoint d) h = ap (λ (k : ℕ × ℕ × ℕ × ℕ). CavityPoint k.1) h
key_point (SplicePoint v j) (SplicePoint w k) h = ap (λ (k : ℕ × ℕ × ℕ × ℕ). SplicePoint k.1 k.2) h
key_point (PinPoint x p) (PinPoint y q) h = ap (λ (k : ℕ × ℕ × ℕ × ℕ). PinPoint k.1 k.2) h
key_point (CavityPoint c) (SplicePoint w k) h = absurd (apart (key_of_point (CavityPoint c)) (key_of_point (SplicePoint w k)) (λ e. omega (arith, e)) h)
key_point (CavityPoint c) (PinPoint y q) h = absurd (apart (key_of_point (CavityPoint c)) (key_of_point (PinPoint y q)) (λ e. omega (arith, e)) h)
key_point (SplicePoint v j) (CavityPoint d) h = absurd (apart (key_of_point (SplicePoint v j)) (key_of_point (CavityPoint d)) (λ e. omega (arith, e)) h)
key_point (SplicePoint v j) (PinPoint y q) h = absurd (apart (key_of_point (SplicePoint v j)) (key_of_point (PinPoint y q)) (λ e. omega (arith, e)) h)
key_point (PinPoint x p) (CavityPoint d) h = absurd (apart (key_of_point (PinPoint x p)) (key_of_point (CavityPoint d)) (λ e. omega (arith, e)) h)
key_point (PinPoint x p) (SplicePoint w k) h = absurd (apart (key_of_point (PinPoint x p)) (key_of_point (SplicePoint w k)) (λ e. omega (arith, e)) h)

keys_tell : (p q : Point) → is_same_key (key_of_point q) (key_of_point p) ≡ is_same_point p q
keys_tell p q =
    same_bools (is_same_key (key_of_point q) (key_of_point p)) (is_same_point p q)
    (λ h.
    let same : q ≡ p = key_point q p (same_key-true (key_of_point q) (key_of_point p) h) in
    ap (λ (x : Point). is_same_point p x) same ∙ same_point-refl p)
    (λ h. ap (λ (x : Point). is_same_key (key_of_point x) (key_of_point p)) (sym (same_point-true p q h)) ∙ same_key-refl (key_of_point p))

-- a table in which one more end is counted at a point
pub point_counted : (old : ℕ × ℕ × ℕ × ℕ → Option ℕ) (points : List Point) (p q : Point) (key : ℕ × ℕ × ℕ × ℕ) (now : Option ℕ) (before after : ℕ)
    → key ≡ key_of_point q → before ≡ unwrap_or (old (key_of_point q)) 0 → after ≡ before + 1
    → now ≡ cond (is_same_key key (key_of_point p)) (Some after) (old (key_of_point p))
    → ((x : Point) → unwrap_or (old (key_of_point x)) 0 ≡ count_by (is_same_point x) points)
    → unwrap_or now 0 ≡ count_by (is_same_point p) (q ∷ points)
point_counted old points p q key now before after is was one_more updated known =
    let test : is_same_key key (key_of_point p) ≡ is_same_point p q = ap (λ (k : ℕ × ℕ × ℕ × ℕ). is_same_key k (key_of_point p)) is ∙ keys_tell p q in
    elim (cases_Bool (is_same_point p q)) [
      | inl same ↦
          let written : now ≡ Some after = updated ∙ cond-true (is_same_key key (key_of_point p)) (Some after) (old (key_of_point p)) (test ∙ same) in
          let value : unwrap_or now 0 ≡ after = ap (λ (o : Option ℕ). unwrap_or o 0) written in
          let more : count_by (is_same_point p) (q ∷ points) ≡ 1 + count_by (is_same_point p) points =
          count-cons p q points ∙ ap (λ (b : Bool). cond b 1 0 + count_by (is_same_point p) points) same in
          let here : unwrap_or (old (key_of_point p)) 0 ≡ before = ap (λ (x : Point). unwrap_or (old (key_of_point x)) 0) (same_point-true p q same) ∙ sym was in
          value ∙ omega (arith, one_more, more, here, known p)
      | inr other ↦
          let kept : now ≡ old (key_of_point p) = updated ∙ cond-false (is_same_key key (key_of_point p)) (Some after) (old (key_of_point p)) (test ∙ other) in
          let no : ◌≡◌ {A = ℕ} (cond (is_same_point p q) 1 0) 0 = ap (λ (b : Bool). cond {A = ℕ} b 1 0) other in
          let more : count_by (is_same_point p) (q ∷ points) ≡ count_by (is_same_point p) points = omega (arith, count-cons p q points, no) in
          ap (λ (o : Option ℕ). unwrap_or o 0) kept ∙ known p ∙ sym more
    ]
