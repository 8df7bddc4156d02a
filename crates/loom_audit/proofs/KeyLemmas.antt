-- Keys stand for ends.
use Rattle.std.proofs.Common.{ℕ, ◌≡◌, ◌+◌, Bool, true, false, cond, ◌&&◌, ◌==◌, Option, Some, unwrap_or, inl, inr, refl, sym, ap, ap₂, ◌∙◌, subst, arith}
use Rattle.std.proofs.lemmas.Bool.{cases_Bool, cond-true, cond-false, and_parts, and_from, eqb-true, eq-eqb, false≢true}
use Rattle.loom_types.specs.declared.wire.End.{End}
use Rattle.loom_types.specs.declared.wire.End.TheVariants.{Cavity, Splice, Pin}
use Rattle.loom_types.specs.WireTree.{is_same_end}
use Rattle.loom_active.proofs.TreeEnds.{same_end, end_itself}
use Rattle.loom_audit.specs.EndKeys.{key_of, is_same_key}

pub same_key-true : (x y : ℕ × ℕ × ℕ × ℕ) → is_same_key x y ≡ true → x ≡ y
same_key-true x y h =
    let all = and_parts ((x.0 == y.0 && x.1 == y.1) && x.2 == y.2) (x.3 == y.3) h in
    let three = and_parts (x.0 == y.0 && x.1 == y.1) (x.2 == y.2) all.0 in
    let two = and_parts (x.0 == y.0) (x.1 == y.1) three.0 in
    λ i. (eqb-true x.0 y.0 two.0 i, eqb-true x.1 y.1 two.1 i, eqb-true x.2 y.2 three.1 i, eqb-true x.3 y.3 all.1 i)

pub same_key-refl : (x : ℕ × ℕ × ℕ × ℕ) → is_same_key x x ≡ true
same_key-refl x =
    and_from ((x.0 == x.0 && x.1 == x.1) && x.2 == x.2) (x.3 == x.3)
    (and_from (x.0 == x.0 && x.1 == x.1) (x.2 == x.2)
    (and_from (x.0 == x.0) (x.1 == x.1) (eq-eqb x.0 x.0 refl) (eq-eqb x.1 x.1 refl)) (eq-eqb x.2 x.2 refl)) (eq-eqb x.3 x.3 refl)

apart : (x y : ℕ × ℕ × ℕ × ℕ) → (x.0 ≡ y.0 → ⊥) → x ≡ y → ⊥
apart x y kinds same = kinds (ap (λ (k : ℕ × ℕ × ℕ × ℕ). k.0) same)

pub key_same : (e f : End) → key_of e ≡ key_of f → e ≡ f
key_same (Cavity c) (Cavity d) h = ap (λ (k : ℕ × ℕ × ℕ × ℕ). Cavity (record { 0 = k.1 })) h
key_same (Splice v j) (Splice w k) h = ap (λ (k : ℕ × ℕ × ℕ × ℕ). Splice (record { 0 = k.1 }) k.2) h
key_same (Pin x p s) (Pin y q t) h = ap (λ (k : ℕ × ℕ × ℕ × ℕ). Pin (record { 0 = k.1 }) k.2 k.3) h
key_same (Cavity c) (Splice w k) h = absurd (apart (key_of (Cavity c)) (key_of (Splice w k)) (λ e. omega (arith, e)) h)
key_same (Cavity c) (Pin y q t) h = absurd (apart (key_of (Cavity c)) (key_of (Pin y q t)) (λ e. omega (arith, e)) h)
key_same (Splice v j) (Cavity d) h = absurd (apart (key_of (Splice v j)) (key_of (Cavity d)) (λ e. omega (arith, e)) h)
key_same (Splice v j) (Pin y q t) h = absurd (apart (key_of (Splice v j)) (key_of (Pin y q t)) (λ e. omega (arith, e)) h)
key_same (Pin x p s) (Cavity d) h = absurd (apart (key_of (Pin x p s)) (key_of (Cavity d)) (λ e. omega (arith, e)) h)
key_same (Pin x p s) (Splice w k) h = absurd (apart (key_of (Pin x p s)) (key_of (Splice w k)) (λ e. omega (arith, e)) h)

pub same_bools : (a b : Bool) → (a ≡ true → b ≡ true) → (b ≡ true → a ≡ true) → a ≡ b
same_bools true b forth back = sym (forth refl)
same_bools false b forth back = elim (cases_Bool b) [
  | inl holds ↦ absurd (false≢true (back holds))
  | inr lacks ↦ sym lacks
]

pub keys_tell : (e f : End) → is_same_key (key_of f) (key_of e) ≡ is_same_end e f
keys_tell e f =
    same_bools (is_same_key (key_of f) (key_of e)) (is_same_end e f)
    (λ h.
    let same : f ≡ e = key_same f e (same_key-true (key_of f) (key_of e) h) in
    ap (λ (x : End). is_same_end e x) same ∙ end_itself e)
    (λ h. ap (λ (x : End). is_same_key (key_of x) (key_of e)) (sym (same_end e f h)) ∙ same_key-refl (key_of e))

-- a table in which an end is counted once more
pub counted_once : (old : ℕ × ℕ × ℕ × ℕ → Option ℕ) (e f : End) (key : ℕ × ℕ × ℕ × ℕ) (now : Option ℕ) (before : ℕ)
    → key ≡ key_of f → before ≡ unwrap_or (old (key_of f)) 0
    → now ≡ cond (is_same_key key (key_of e)) (Some (before + 1)) (old (key_of e))
    → unwrap_or now 0 ≡ unwrap_or (old (key_of e)) 0 + cond (is_same_end e f) 1 0
counted_once old e f key now before is was updated =
    let test : is_same_key key (key_of e) ≡ is_same_end e f = ap (λ (k : ℕ × ℕ × ℕ × ℕ). is_same_key k (key_of e)) is ∙ keys_tell e f in
    elim (cases_Bool (is_same_end e f)) [
      | inl same ↦
          let written : now ≡ Some (before + 1) = updated ∙ cond-true (is_same_key key (key_of e)) (Some (before + 1)) (old (key_of e)) (test ∙ same) in
          let value : unwrap_or now 0 ≡ before + 1 = ap (λ (o : Option ℕ). unwrap_or o 0) written in
          let one : ◌≡◌ {A = ℕ} (cond (is_same_end e f) 1 0) 1 = cond-true (is_same_end e f) 1 0 same in
          let here : unwrap_or (old (key_of e)) 0 ≡ before = ap (λ (x : End). unwrap_or (old (key_of x)) 0) (same_end e f same) ∙ sym was in
          omega (arith, value, one, here)
      | inr other ↦
          let kept : now ≡ old (key_of e) = updated ∙ cond-false (is_same_key key (key_of e)) (Some (before + 1)) (old (key_of e)) (test ∙ other) in
          let value : unwrap_or now 0 ≡ unwrap_or (old (key_of e)) 0 = ap (λ (o : Option ℕ). unwrap_or o 0) kept in
          let none : ◌≡◌ {A = ℕ} (cond (is_same_end e f) 1 0) 0 = cond-false (is_same_end e f) 1 0 other in
          omega (arith, value, none)
    ]
