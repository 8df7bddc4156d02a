-- Lists with one element changed, as a write at a place makes them.
use Rattle.std.proofs.Common.{◌≡◌, ℕ, zero, suc, ◌<◌, ◌≤◌, List, [], ◌∷◌, length, refl, ap, ◌∙◌, arith}
use Rattle.std.specs.Prelude.{slice_index_or, slice_set}
use Rattle.loom_edits.specs.Places.{changed_at}

-- a write of what the element becomes
pub changed_by_set : {A : Type 0} (change : A → A) (xs : List A) (at : ℕ) (d : A) → at < length xs → slice_set xs at (change (slice_index_or xs at d)) ≡ changed_at change xs at
changed_by_set change [] at d lt = absurd (omega (arith, lt))
changed_by_set change (x ∷ xs) zero d lt = refl
changed_by_set change (x ∷ xs) (suc at) d lt = ap (λ ys. x ∷ ys) (changed_by_set change xs at d (omega (arith, lt)))

-- past the end nothing is changed
pub changed_past : {A : Type 0} (change : A → A) (xs : List A) (at : ℕ) → length xs ≤ at → changed_at change xs at ≡ xs
changed_past change [] at le = refl
changed_past change (x ∷ xs) zero le = absurd (omega (arith, le))
changed_past change (x ∷ xs) (suc at) le = ap (λ ys. x ∷ ys) (changed_past change xs at (omega (arith, le)))

-- what a write at a place made of a list
pub written : {A : Type 0} (change : A → A) (xs items made : List A) (at : ℕ) (x y : A) → items ≡ xs → x ≡ slice_index_or items at x → at < length xs → y ≡ change x → made ≡ slice_set items at y → made ≡ changed_at change xs at
written change xs items made at x y same here lt becomes wrote =
    wrote ∙ ap (λ zs. slice_set zs at y) same
    ∙ ap (slice_set xs at) (becomes ∙ ap change (here ∙ ap (λ zs. slice_index_or zs at x) same))
    ∙ changed_by_set change xs at x lt

pub ruleset changes = (written, changed_past)
