-- The segments that a class is barred from, collected in order.
use Rattle.std.proofs.Common.{◌≡◌, ℕ, ◌+◌, ◌<◌, List, [], ◌∷◌, ◌++◌, map, Bool, true, false, if◌then◌else◌, refl, sym, ap, ◌∙◌, arith, rules}
use Rattle.std.specs.Prelude.{All, filter}
use Rattle.std.specs.List.{range_with_len}
use Rattle.std.proofs.lemmas.List.{map-append, map-id}
use Rattle.std.proofs.lemmas.List.Elements.{filter-append, All-append}
use Rattle.std.proofs.lemmas.List.FromFn.{map-range_with_len_more}
use Rattle.loom_base.specs.declared.positions.SegmentNo.{SegmentNo}

range_more : (i : ℕ) → range_with_len 0 (i + 1) ≡ range_with_len 0 i ++ i ∷ []
range_more i =
    sym (map-id (range_with_len 0 (i + 1))) ∙ map-range_with_len_more (λ n. n) 0 i i (omega arith)
    ∙ ap (λ ns. ns ++ i ∷ []) (map-id (range_with_len 0 i))

numbers_of : (b : Bool) (one : SegmentNo) → map (λ s. s.0) (if b then one ∷ [] else []) ≡ (if b then one.0 ∷ [] else [])
numbers_of true one = refl
numbers_of false one = refl

filter_one : (p : ℕ → Bool) (i : ℕ) → filter p (i ∷ []) ≡ (if p i then i ∷ [] else [])
filter_one p i = elim (p i) as (λ b. (if b then i ∷ [] else []) ≡ (if b then i ∷ [] else [])) [ true ↦ refl | false ↦ refl ]

-- the numbers of the barred segments up to one more
pub barred_next : (p : ℕ → Bool) (made after : List SegmentNo) (b : Bool) (one : SegmentNo) (i : ℕ) → map (λ s. s.0) made ≡ filter p (range_with_len 0 i) → b ≡ p i → one.0 ≡ i → after ≡ made ++ (if b then one ∷ [] else []) → map (λ s. s.0) after ≡ filter p (range_with_len 0 (i + 1))
barred_next p made after b one i was here number added =
    ap (map (λ s. s.0)) added ∙ map-append (λ s. s.0) made (if b then one ∷ [] else [])
    ∙ ap (λ ns. ns ++ map (λ s. s.0) (if b then one ∷ [] else [])) was
    ∙ ap (λ ns. filter p (range_with_len 0 i) ++ ns) (numbers_of b one ∙ ap (λ n. if b then n ∷ [] else []) number ∙ ap (λ v. if v then i ∷ [] else []) here ∙ sym (filter_one p i))
    ∙ sym (ap (filter p) (range_more i) ∙ filter-append p (range_with_len 0 i) (i ∷ []))

all_of_one : (n : ℕ) (b : Bool) (one : SegmentNo) → one.0 < n → All (λ s. s.0 < n) (if b then one ∷ [] else [])
all_of_one n true one lt = search rules
all_of_one n false one lt = search rules

pub within_next : (n : ℕ) (made after : List SegmentNo) (b : Bool) (one : SegmentNo) → All (λ s. s.0 < n) made → one.0 < n → after ≡ made ++ (if b then one ∷ [] else []) → All (λ s. s.0 < n) after
within_next n made after b one was lt added =
    rw added (All-append (λ s. s.0 < n) made (if b then one ∷ [] else []) was (all_of_one n b one lt))
