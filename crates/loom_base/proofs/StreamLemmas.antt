-- How bytes move between lists and buffers, and how causes add up.
use Rattle.std.proofs.Common.{ℕ, ◌≡◌, ◌+◌, ◌-◌, ◌^◌, ◌<◌, ◌≤◌, min, List, [], ◌++◌, length, take, drop, sym, ap, subst, ◌∙◌, arith, length-append, append-nil, Option, None, Some, inl, inr}
use Rattle.std.specs.Io.KnownBytes.{Consumes, Appends, IsAtEnd, Keeps}
use Rattle.std.proofs.KnownBytes.{Consumes-trans, Consumes-kept, Appends-trans}
use Rattle.std.proofs.Math.Seq.{take-add}
use Rattle.std.proofs.lemmas.List.{take-append-drop, take-append-le, take_all, take_rest, drop-drop, length-take-le, length-drop, drop_all}
use Rattle.loom_base.specs.Causes.{Rose}
use Rattle.loom_base.specs.Streams.{ReadsAll, Takes, TakesAtMost}

-- a count that rose since a moment at which it was as before rose
pub rose_since : (before between now : ℕ) → between ≡ before → Rose between now → Rose before now
rose_since before between now same rose = subst (λ n. Rose n now) same rose

-- the front of a buffer into which the front of a list was copied
pub front_of_filled : (left old : List ℕ) (count : ℕ) → count ≤ length left → take count (take count left ++ drop count old) ≡ take count left
front_of_filled left old count within =
    let len = length-take-le count left within in
    take-append-le count (take count left) (drop count old) (omega (arith, len)) ∙ take_all count (take count left) (omega (arith, len))

-- what was left begins with what a read moved
moved : (left old new : List ℕ) (count : ℕ) → count ≡ min (length old) (length left) → new ≡ take count left ++ drop count old → left ≡ take count new ++ drop count left
moved left old new count exact buffer =
    let within : count ≤ length left = omega arith in
    sym (take-append-drop count left) ∙ ap (λ xs. xs ++ drop count left) (sym (ap (take count) buffer ∙ front_of_filled left old count within))

-- a read from a place moved a front of what was left there
pub moved_from : (bytes slice old new : List ℕ) (place count : ℕ) → slice ≡ bytes → count ≡ min (length old) (length (take (length slice - place) (drop place slice)))
    → new ≡ take count (take (length slice - place) (drop place slice)) ++ drop count old → drop place bytes ≡ take count new ++ drop (place + count) bytes
moved_from bytes slice old new place count same exact buffer =
    let rest : take (length slice - place) (drop place slice) ≡ drop place bytes = take_rest slice place ∙ ap (drop place) same in
    moved (drop place bytes) old new count (exact ∙ ap (λ (xs : List ℕ). min (length old) (length xs)) rest) (buffer ∙ ap (λ xs. take count xs ++ drop count old) rest)
    ∙ ap (λ xs. take count new ++ xs) (drop-drop count place bytes)

-- a read that moves nothing into a buffer with room found nothing left
pub none_left : (bytes slice old new : List ℕ) (place count : ℕ) → slice ≡ bytes → count ≡ min (length old) (length (take (length slice - place) (drop place slice)))
    → length new ≡ length old → count ≡ 0 → 0 < length new → drop (place + count) bytes ≡ []
none_left bytes slice old new place count same exact len none room =
    let rest : length (take (length slice - place) (drop place slice)) ≡ length bytes - place = ap length (take_rest slice place ∙ ap (drop place) same) ∙ length-drop place bytes in
    drop_all (place + count) bytes (omega arith)

-- what a read took stands behind what the reads before it took
pub gathered : (a b c : Option (List ℕ)) (bytes buf rest new : List ℕ) (count : ℕ) → Consumes a b bytes → Consumes b c (take count buf) → count ≤ length buf
    → new ≡ bytes ++ take count (buf ++ rest) → Consumes a c new
gathered a b c bytes buf rest new count before read within grown =
    subst (Consumes a c) (sym (grown ∙ ap (λ xs. bytes ++ xs) (take-append-le count buf rest within))) (Consumes-trans a b c bytes (take count buf) before read)

-- a read that took nothing and found nothing left ends the reading
pub ended : (a b c : Option (List ℕ)) (bytes buf new : List ℕ) (count limit : ℕ) → Consumes a b bytes → Consumes b c (take count buf) → count ≡ 0 → IsAtEnd c
    → new ≡ bytes → length bytes ≤ limit → ReadsAll a c limit new
ended a b c bytes buf new count limit before read none at_end same short =
    let nothing : take count buf ≡ [] = ap (λ n. take n buf) none in
    record {
      taken = subst (Consumes a c) (ap (λ xs. bytes ++ xs) nothing ∙ append-nil bytes ∙ sym same) (Consumes-trans a b c bytes (take count buf) before read);
      at_end = at_end;
      within = subst (λ (xs : List ℕ). length xs ≤ limit) (sym same) short;
    }

-- what all reads took, the last among them
pub taken_with : (a b c : Option (List ℕ)) (bytes more : List ℕ) (most : ℕ) → Consumes a b bytes → Consumes b c more → length bytes + length more ≤ most → TakesAtMost a c most
taken_with a b c bytes more most before read within =
    (bytes ++ more, Consumes-trans a b c bytes more before read, omega (arith, length-append bytes more))

-- what the reads took before one that failed
pub taken_before : (a b c : Option (List ℕ)) (bytes : List ℕ) (most : ℕ) → Consumes a b bytes → Keeps b c → length bytes ≤ most → TakesAtMost a c most
taken_before a b c bytes most before kept within =
    (bytes, Consumes-kept a b c bytes before kept, within)

-- what a write took stands behind what the writes before it took
pub appended_more : (a b c : Option (List ℕ)) (bytes : List ℕ) (written count : ℕ) → Appends a b (take written bytes) → Appends b c (take count (take (length bytes - written) (drop written bytes)))
    → Appends a c (take (written + count) bytes)
appended_more a b c bytes written count before write =
    let rest = take_rest bytes written in
    subst (Appends a c) (ap (λ xs. take written bytes ++ take count xs) rest ∙ sym (take-add written count bytes)) (Appends-trans a b c (take written bytes) _ before write)

-- ---- what the answers say of a stream that tells its bytes

-- all was read: the bytes are what was left, which was no longer than the limit
pub all_of_known : (input : List ℕ) (new : Option (List ℕ)) (limit : ℕ) (bytes : List ℕ) → ReadsAll (Some input) new limit bytes → (bytes ≡ input) × (length input ≤ limit) × (new ≡ Some [])
all_of_known input None limit bytes all = absurd all.taken
all_of_known input (Some rest) limit bytes all =
    let same : input ≡ bytes = all.taken ∙ ap (λ xs. bytes ++ xs) all.at_end ∙ append-nil bytes in
    (sym same, subst (λ (xs : List ℕ). length xs ≤ limit) (sym same) all.within, ap Some all.at_end)

-- so many bytes were taken: at least as many were left
pub takes_known : (input : List ℕ) (new : Option (List ℕ)) (count : ℕ) → Takes (Some input) new count → count ≤ length input
takes_known input None count taken = absurd taken.1
takes_known input (Some rest) count taken =
    omega (arith, ap length taken.1, length-append taken.0 rest, taken.2)

-- a sink that tells its bytes holds the appended ones behind those before
pub appends_known : (before : List ℕ) (new : Option (List ℕ)) (bytes : List ℕ) → Appends (Some before) new bytes → new ≡ Some (before ++ bytes)
appends_known before None bytes h = absurd h
appends_known before (Some after) bytes h = ap Some h

-- a count that stays where it is, below the last value, didn't rise
pub steady_count : (count : ℕ) → count < 2 ^ 64 - 1 → Rose count count → ⊥
steady_count count below rose =
    elim rose [ inl above ↦ absurd (omega arith) | inr last ↦ absurd (omega (arith, last, below)) ]
