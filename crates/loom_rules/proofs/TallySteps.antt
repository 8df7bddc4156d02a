-- Tallies that were noted once, twice, and over the wires so far.
use Rattle.std.proofs.Common.{◌≡◌, ℕ, ◌+◌, ◌<◌, ◌≤◌, Bool, true, false, cond, ◌&&◌, ◌||◌, List, take, length, get_or, refl, sym, ◌∙◌, ap, subst, arith, ◌==◌, eq-eqb}
use Rattle.std.specs.Prelude.{Option, Some, None, count_by}
use Rattle.std.specs.Ordering.{nat_cmp, is_eq, ordering_then}
use Rattle.std.specs.Cmp.{unsigned_tied, tied_then}
use Rattle.std.proofs.lemmas.Grind.{common_steps}
use Rattle.std.specs.List.{list_any}
use Rattle.std.proofs.lemmas.List.Folds.{list_any_more}
use Rattle.loom_base.specs.declared.positions.SegmentNo.{SegmentNo}
use Rattle.std.proofs.lemmas.List.Sums.{count_by_more_yes, count_by_more_no}
use Rattle.loom_rules.specs.declared.tally.Tally.{Tally}
use Rattle.loom_rules.specs.Tallies.{noted, count_in, IsKept}

-- what is at a place after a wire that has it, or has not
abbrev pub noted_if : Bool → ℕ → Option Tally → Option Tally
noted_if has number earlier = cond has (Some (noted number earlier)) earlier

last_is : (number : ℕ) (t : Tally) (b : Bool) → (t.last == number) ≡ b
    → noted number (Some t) ≡ cond b t (record { count = t.count + 1; last = number })
last_is number t b e = ap (λ (c : Bool). cond c t (record { count = t.count + 1; last = number })) e

twice-some : (number : ℕ) (t : Tally) (b : Bool) → (t.last == number) ≡ b
    → noted number (Some (noted number (Some t))) ≡ noted number (Some t)
twice-some number t true e =
    ap (λ (s : Tally). noted number (Some s)) (last_is number t true e)
twice-some number t false e =
    let at : noted number (Some t) ≡ record { count = t.count + 1; last = number } = last_is number t false e in
    last_is number (noted number (Some t)) true (eq-eqb (noted number (Some t)).last number (ap (λ (s : Tally). s.last) at))

-- a place that the wire has twice counts once
pub noted-twice : (number : ℕ) (earlier : Option Tally) → noted number (Some (noted number earlier)) ≡ noted number earlier
noted-twice number None = last_is number (noted number None) true (eq-eqb number number refl)
noted-twice number (Some t) = twice-some number t (t.last == number) refl

-- one part of the wire after the other
pub noted-or : (number : ℕ) (a b : Bool) (earlier between after : Option Tally) → between ≡ noted_if a number earlier
    → after ≡ noted_if b number between → after ≡ noted_if (a || b) number earlier
noted-or number false false earlier between after e f = f ∙ e
noted-or number false true earlier between after e f = f ∙ ap (λ (o : Option Tally). Some (noted number o)) e
noted-or number true false earlier between after e f = f ∙ e
noted-or number true true earlier between after e f =
    f ∙ ap (λ (o : Option Tally). Some (noted number o)) e ∙ ap (λ (t : Tally). Some t) (noted-twice number earlier)

pub IsKept-later : (number later : ℕ) (o : Option Tally) → number ≤ later → IsKept number o → IsKept later o
IsKept-later number later None h k = tt
IsKept-later number later (Some t) h k = (k.0, omega (arith, k.1))

count-yes : (number : ℕ) (o : Option Tally) → IsKept number o → count_in (Some (noted (number + 1) o)) ≡ count_in o + 1
count-yes number None k = refl
count-yes number (Some t) k =
    let apart : (t.last == number + 1) ≡ false = grind (arith, common_steps, k.1) in
    ap (λ (s : Tally). s.count) (last_is (number + 1) t false apart)

-- the count of a place goes on with the next wire
pub counted : {X : Type 0} (p : X → Bool) (xs : List X) (i : ℕ) (d : X) (b : Bool) (o n : Option Tally) → i < length xs
    → p (get_or xs i d) ≡ b → IsKept i o → count_in o ≡ count_by p (take i xs) → n ≡ noted_if b (i + 1) o
    → count_in n ≡ count_by p (take (i + 1) xs)
counted p xs i d true o n h at k c e =
    ap count_in e ∙ count-yes i o k ∙ ap (λ (m : ℕ). m + 1) c ∙ sym (count_by_more_yes p xs i d h at)
counted p xs i d false o n h at k c e = ap count_in e ∙ c ∙ sym (count_by_more_no p xs i d h at)

-- a splice as it would be found is at its net, node and ordinal
pub is_at-splice : (a b c d e f : ℕ)
    → is_eq (ordering_then (nat_cmp a b) (ordering_then (nat_cmp c d) (nat_cmp e f))) ≡ ((a == b) && ((c == d) && (e == f)))
is_at-splice a b c d e f =
    sym (tied_then (nat_cmp a b) (ordering_then (nat_cmp c d) (nat_cmp e f)))
    ∙ ap (λ (x : Bool). is_eq (nat_cmp a b) && x) (sym (tied_then (nat_cmp c d) (nat_cmp e f)))
    ∙ ap (λ (x : Bool). x && (is_eq (nat_cmp c d) && is_eq (nat_cmp e f))) (unsigned_tied a b)
    ∙ ap (λ (x : Bool). (a == b) && (x && is_eq (nat_cmp e f))) (unsigned_tied c d)
    ∙ ap (λ (x : Bool). (a == b) && ((c == d) && x)) (unsigned_tied e f)

pub and-or : (a b c : Bool) → ((a && b) || (a && c)) ≡ (a && (b || c))
and-or false b c = refl
and-or true b c = refl

-- the tallies of the first wires
pub record IsTallied {K : Type 0} {X : Type 0} (has : K → X → Bool) (xs : List X) (number : ℕ) (at : K → Option Tally) : Type 0 where
  pub counts : (q : K) → count_in (at q) ≡ count_by (has q) xs
  pub kept : (q : K) → IsKept number (at q)

-- the places of a wire that were noted so far
pub record IsNotedSoFar {K : Type 0} (number : ℕ) (has : K → Bool) (old at : K → Option Tally) : Type 0 where
  pub noted_there : (q : K) → at q ≡ noted_if (has q) number (old q)
  pub kept : (q : K) → IsKept number (at q)

-- the tallies go on with the next wire
pub tallied-more : {K X : Type 0} (has : K → X → Bool) (xs : List X) (i : ℕ) (w : X) (old new : K → Option Tally) → i < length xs
    → w ≡ get_or xs i w → IsTallied has (take i xs) i old → ((q : K) → new q ≡ noted_if (has q w) (i + 1) (old q))
    → ((q : K) → IsKept (i + 1) (new q)) → IsTallied has (take (i + 1) xs) (i + 1) new
tallied-more has xs i w old new h is so e k = record {
  counts = λ q. counted (has q) xs i w (has q w) (old q) (new q) h (sym (ap (has q) is)) (so.kept q) (so.counts q) (e q);
  kept = k;
}

-- and with the next segment of its route
pub noted-more : (number : ℕ) (route : List SegmentNo) (i : ℕ) (d : SegmentNo) (old mid new : ℕ → Option Tally) → i < length route
    → IsNotedSoFar number (λ q. list_any (λ t. t.0 == q) (take i route)) old mid
    → ((q : ℕ) → new q ≡ noted_if (is_eq (nat_cmp (get_or route i d).0 q)) number (mid q)) → ((q : ℕ) → IsKept number (new q))
    → IsNotedSoFar number (λ q. list_any (λ t. t.0 == q) (take (i + 1) route)) old new
noted-more number route i d old mid new h so e k = record {
  noted_there = λ q.
      noted-or number (list_any (λ t. t.0 == q) (take i route)) (is_eq (nat_cmp (get_or route i d).0 q)) (old q) (mid q) (new q)
      (so.noted_there q) (e q)
      ∙ ap (λ (b : Bool). noted_if b number (old q)) (grown q);
  kept = k;
} where
  grown : (q : ℕ)
      → (list_any (λ t. t.0 == q) (take i route) || is_eq (nat_cmp (get_or route i d).0 q)) ≡ list_any (λ t. t.0 == q) (take (i + 1) route)
  grown q =
      ap (λ (b : Bool). list_any (λ t. t.0 == q) (take i route) || b) (unsigned_tied (get_or route i d).0 q)
      ∙ sym (list_any_more (λ t. t.0 == q) route i d h)

-- no wire has been tallied
pub tallied-none : {K X : Type 0} (has : K → X → Bool) (xs : List X) (at : K → Option Tally) → ((q : K) → at q ≡ None)
    → IsTallied has (take 0 xs) 0 at
tallied-none has xs at e = record {
  counts = λ q. ap count_in (e q);
  kept = λ q. subst (IsKept 0) (sym (e q)) tt;
}

-- both ends of a wire
pub noted-ends : (number : ℕ) (net from to : Bool) (earlier between after : Option Tally)
    → between ≡ noted_if (net && from) number earlier → after ≡ noted_if (net && to) number between
    → after ≡ noted_if (net && (from || to)) number earlier
noted-ends number net from to earlier between after e f =
    noted-or number (net && from) (net && to) earlier between after e f
    ∙ ap (λ (b : Bool). noted_if b number earlier) (and-or net from to)
