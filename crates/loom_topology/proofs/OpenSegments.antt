-- The open segments at a node: which they are, and what one more segment adds.
use Rattle.std.proofs.Common.{◌≡◌, ◌<◌, ◌≤◌, ◌+◌, [], ◌∷◌, ◌++◌, length, get_or, ℕ, List, Bool, false, cond, ap, ◌∙◌, refl, arith, zero, suc, add-zero, zero-add}
use Rattle.std.specs.List.{filter, range_with_len}
use Rattle.std.proofs.lemmas.List.{length-append}
use Rattle.std.proofs.lemmas.List.Elements.{filter-append}
use Rattle.std.proofs.Math.Seq.{get_or-append_seam}
use Rattle.std.proofs.lemmas.List.{get_or_append_left}
use Rattle.loom_topology.specs.Topology.{Segment, no_segment, is_open_to, open_among}

-- the numbers from a on: one more stands at their end
pub range_with_len-more : (a n : ℕ) → range_with_len a (n + 1) ≡ range_with_len a n ++ (a + n) ∷ []
range_with_len-more a zero = rw add-zero refl
range_with_len-more a (suc n) =
    let longer : suc n + 1 ≡ suc (n + 1) = omega arith in
    let last : (a + 1) + n ≡ a + suc n = omega arith in
    ap (range_with_len a) longer
    ∙ ap (λ l. a ∷ l) (range_with_len-more (a + 1) n)
    ∙ ap (λ m. (a ∷ range_with_len (a + 1) n) ++ m ∷ []) last

-- two tests that agree at each of the numbers
pub filter-range_same : (p q : ℕ → Bool) (a n : ℕ) → ((k : ℕ) → a ≤ k → k < a + n → p k ≡ q k) → filter p (range_with_len a n) ≡ filter q (range_with_len a n)
filter-range_same p q a zero same = refl
filter-range_same p q a (suc n) same =
    let rest : filter p (range_with_len (a + 1) n) ≡ filter q (range_with_len (a + 1) n) =
    filter-range_same p q (a + 1) n (λ k from to. same k (omega arith) (omega arith)) in
    let here : p a ≡ q a = same a (omega arith) (omega arith) in
    rw (here, rest) refl

filter-range_none : (p : ℕ → Bool) (a n : ℕ) → ((k : ℕ) → a ≤ k → k < a + n → p k ≡ false) → filter p (range_with_len a n) ≡ []
filter-range_none p a zero none = refl
filter-range_none p a (suc n) none =
    let rest : filter p (range_with_len (a + 1) n) ≡ [] =
    filter-range_none p (a + 1) n (λ k from to. none k (omega arith) (omega arith)) in
    let here : p a ≡ false = none a (omega arith) (omega arith) in
    rw (here, rest) refl

-- a further segment stands at the end of the lists of its ends, if it is open
pub open_among-push : (segments : List Segment) (g : Segment) (v : ℕ) → open_among (segments ++ g ∷ []) v ≡ open_among segments v ++ cond (is_open_to g v) (length segments ∷ []) []
unfolding open_among
open_among-push segments g v =
    let n = length segments in
    let longer : length (segments ++ g ∷ []) ≡ n + 1 = omega (arith, length-append segments (g ∷ [])) in
    let before : filter (λ s. is_open_to (get_or (segments ++ g ∷ []) s no_segment) v) (range_with_len 0 n)
    ≡ filter (λ s. is_open_to (get_or segments s no_segment) v) (range_with_len 0 n) =
    filter-range_same _ _ 0 n (λ k from to. ap (λ h. is_open_to h v) (get_or_append_left segments (g ∷ []) no_segment k (omega arith))) in
    let last : get_or (segments ++ g ∷ []) n no_segment ≡ g = get_or-append_seam segments g [] no_segment in
    ap (λ m. filter (λ s. is_open_to (get_or (segments ++ g ∷ []) s no_segment) v) (range_with_len 0 m)) longer
    ∙ ap (filter (λ s. is_open_to (get_or (segments ++ g ∷ []) s no_segment) v)) (range_with_len-more 0 n)
    ∙ filter-append _ (range_with_len 0 n) ((0 + n) ∷ [])
    ∙ ap (λ m. filter (λ s. is_open_to (get_or (segments ++ g ∷ []) s no_segment) v) (range_with_len 0 n)
    ++ filter (λ s. is_open_to (get_or (segments ++ g ∷ []) s no_segment) v) (m ∷ [])) (zero-add n)
    ∙ ap (λ l. l ++ filter (λ s. is_open_to (get_or (segments ++ g ∷ []) s no_segment) v) (n ∷ [])) before
    ∙ ap (λ h. filter (λ s. is_open_to (get_or segments s no_segment) v) (range_with_len 0 n) ++ cond (is_open_to h v) (n ∷ []) []) last

-- no list holds a node that is no end
pub open_among-none : (segments : List Segment) (v : ℕ) → ((s : ℕ) → s < length segments → is_open_to (get_or segments s no_segment) v ≡ false) → open_among segments v ≡ []
unfolding open_among
open_among-none segments v none = filter-range_none _ 0 (length segments) (λ k from to. none k (omega arith))
