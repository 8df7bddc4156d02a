-- What is picked of wires by position, and of tallies by place, is exactly what each kind of rule finds.
use Rattle.std.proofs.Common.{◌≡◌, ℕ, suc, ◌+◌, ◌<◌, Bool, true, zero, List, [], ◌∷◌, ◌++◌, ◌≤◌, length, drop, append-nil, refl, sym, ◌∙◌, ap, subst, inl, inr, arith, ltb-true, lt-ltb}
use Rattle.std.specs.Prelude.{Option, Some, None, Contains, count_by, nat_lt, slice_get}
use Rattle.std.specs.List.{AllByRecursion, enumerate_from}
use Rattle.std.specs.Map.{keys_of}
use Rattle.std.specs.BTreeMap.{BTreeMap, IsOrdered, get}
use Rattle.std.specs.declared.cmp.Ordering.{Ordering}
use Rattle.std.specs.declared.cmp.Ordering.TheVariants.{Less, Equal, Greater}
use Rattle.std.specs.Ordering.{nat_cmp, ordering_then}
use Rattle.std.specs.Cmp.{IsTotalOrder, nat_cmp_total, on_total, then_total}
use Rattle.std.specs.List.Sorted.{IsStrictlySortedBy}
use Rattle.std.proofs.lemmas.Grind.{common_steps}
use Rattle.std.proofs.lemmas.List.{drop_all}
use Rattle.std.proofs.lemmas.Map.Lookups.{CmpEqualImpliesEq, exact_unsigned}
use Rattle.std.proofs.lemmas.Map.Views.{btree_map_get_iff}
use Rattle.loom_types.specs.declared.wire.Wire.{Wire}
use Rattle.loom_rules.specs.declared.finding.Finding.{Finding}
use Rattle.loom_rules.specs.declared.tally.Tally.{Tally}
use Rattle.loom_rules.specs.Findings.{finding_cmp, has_segment, ends_at_splice, IsLongWire, IsCrowdedSegment, IsBusySplice, IsFound, AreFindings}
use Rattle.loom_rules.specs.Findings.IsFound.{long, crowded, busy}
use Rattle.loom_rules.specs.Tallies.{count_in}
use Rattle.loom_rules.proofs.Picked.{picked, picked-rising, from_picked, into_picked, contains-first, contains-later, contains-none, contains-cases}

is_long : (limit : ℕ) (wires : List Wire) (found : Finding) (kind : ℕ) → IsFound limit wires found kind → kind ≡ 1
    → IsLongWire limit wires found
is_long limit wires found _ (long h) e = h
is_long limit wires found _ (crowded h) e = absurd (omega (arith, e))
is_long limit wires found _ (busy h) e = absurd (omega (arith, e))

is_crowded : (limit : ℕ) (wires : List Wire) (found : Finding) (kind : ℕ) → IsFound limit wires found kind → kind ≡ 2
    → IsCrowdedSegment limit wires found
is_crowded limit wires found _ (long h) e = absurd (omega (arith, e))
is_crowded limit wires found _ (crowded h) e = h
is_crowded limit wires found _ (busy h) e = absurd (omega (arith, e))

is_busy : (limit : ℕ) (wires : List Wire) (found : Finding) (kind : ℕ) → IsFound limit wires found kind → kind ≡ 3
    → IsBusySplice limit wires found
is_busy limit wires found _ (long h) e = absurd (omega (arith, e))
is_busy limit wires found _ (crowded h) e = absurd (omega (arith, e))
is_busy limit wires found _ (busy h) e = h

-- three numbers make a finding
finding-same : (a b c : ℕ) (x : Finding) → a ≡ x.first → b ≡ x.second → c ≡ x.third
    → record { first = a; second = b; third = c } ≡ x
finding-same a b c x e f g = λ i. record { first = e i; second = f i; third = g i }

-- ---- long wires, by position
abbrev pub is_longer : ℕ → ℕ × Wire → Bool
is_longer limit e = nat_lt limit e.1.length

abbrev pub long_finding : ℕ × Wire → Finding
long_finding e = record { first = e.0; second = 0; third = 0 }

positions-above : (m n : ℕ) (xs : List Wire) → m < n → AllByRecursion (λ k. nat_cmp m k ≡ Less) (keys_of (enumerate_from n xs))
positions-above m n [] h = tt
positions-above m n (x ∷ xs) h = (grind (arith, common_steps), positions-above m (n + 1) xs (omega arith))

positions-rising : (n : ℕ) (xs : List Wire) → IsStrictlySortedBy nat_cmp (keys_of (enumerate_from n xs))
unfolding IsStrictlySortedBy
positions-rising n [] = tt
positions-rising n (x ∷ xs) = (positions-above n (n + 1) xs (omega arith), positions-rising (n + 1) xs)

-- the entry is a wire at its position, counted from n
abbrev IsAtPosition : ℕ → List Wire → ℕ × Wire → Type 0
IsAtPosition n xs e = (j : ℕ) × (e.0 ≡ n + j) × (slice_get xs j ≡ Some e.1)

at-first : (n : ℕ) (x : Wire) (xs : List Wire) (e : ℕ × Wire) → (n, x) ≡ e → IsAtPosition n (x ∷ xs) e
at-first n x xs e is =
    let place : n ≡ e.0 = ap (λ (d : ℕ × Wire). d.0) is in
    (0, omega (arith, place), ap (λ (d : ℕ × Wire). Some d.1) is)

at-later : (n : ℕ) (x : Wire) (xs : List Wire) (e : ℕ × Wire) → IsAtPosition (n + 1) xs e → IsAtPosition n (x ∷ xs) e
at-later n x xs e at = (suc at.0, omega (arith, at.1), at.2)

at_position : (n : ℕ) (xs : List Wire) (e : ℕ × Wire) → Contains (enumerate_from n xs) e → IsAtPosition n xs e
at_position n [] e h = absurd (contains-none e h)
at_position n (x ∷ xs) e h =
    elim (contains-cases (n, x) e (enumerate_from (n + 1) xs) h) [
      | inl is ↦ at-first n x xs e is
      | inr more ↦ at-later n x xs e (at_position (n + 1) xs e more)
    ]

by_position : (n : ℕ) (xs : List Wire) (j : ℕ) (w : Wire) → slice_get xs j ≡ Some w → Contains (enumerate_from n xs) (n + j, w)
by_position n [] j w h = absurd (cc)
by_position n (x ∷ xs) zero w h =
    let z : n ≡ n + 0 = omega arith in
    let is : x ≡ w = cc in
    subst (λ (d : ℕ × Wire). Contains (enumerate_from n (x ∷ xs)) d) (λ i. (z i, is i))
    (contains-first (n, x) (enumerate_from (n + 1) xs))
by_position n (x ∷ xs) (suc j) w h =
    let next : n + 1 + j ≡ n + suc j = omega arith in
    contains-later (n, x) (n + suc j, w) (enumerate_from (n + 1) xs)
    (subst (λ (m : ℕ). Contains (enumerate_from (n + 1) xs) (m, w)) next (by_position (n + 1) xs j w h))

-- the picked positions are exactly the long wires
pub long-found : (limit : ℕ) (wires : List Wire)
    → AreFindings 1 limit wires (picked (is_longer limit) long_finding (enumerate_from 0 wires))
long-found limit wires = record {
  rising = picked-rising (is_longer limit) long_finding nat_cmp finding_cmp keeps (enumerate_from 0 wires) (positions-rising 0 wires);
  exactly = λ x. (to x, λ h. back x (is_long limit wires x 1 h refl));
} where
  keeps : (d e : ℕ × Wire) → nat_cmp d.0 e.0 ≡ Less → finding_cmp (long_finding d) (long_finding e) ≡ Less
  keeps d e less = ap (λ (o : Ordering). ordering_then o (ordering_then (nat_cmp 0 0) (nat_cmp 0 0))) less

  to : (x : Finding) → Contains (picked (is_longer limit) long_finding (enumerate_from 0 wires)) x → IsFound limit wires x 1
  to x h =
      let (e, has, passes, is) = from_picked (is_longer limit) long_finding (enumerate_from 0 wires) x h in
      let (j, at, there) = at_position 0 wires e has in
      let here : e.0 ≡ j = omega (arith, at) in
      let first : j ≡ x.first = sym here ∙ ap (λ (f : Finding). f.first) is in
      long (record {
        wire = e.1;
        at = subst (λ (i : ℕ). slice_get wires i ≡ Some e.1) first there;
        longer = ltb-true limit e.1.length passes;
        second = sym (ap (λ (f : Finding). f.second) is);
        third = sym (ap (λ (f : Finding). f.third) is);
      })

  back : (x : Finding) → IsLongWire limit wires x → Contains (picked (is_longer limit) long_finding (enumerate_from 0 wires)) x
  back x h =
      let z : 0 + x.first ≡ x.first = omega arith in
      let same : long_finding (0 + x.first, h.wire) ≡ x = finding-same (0 + x.first) 0 0 x z (sym h.second) (sym h.third) in
      subst (λ (f : Finding). Contains (picked (is_longer limit) long_finding (enumerate_from 0 wires)) f) same
      (into_picked (is_longer limit) long_finding (enumerate_from 0 wires) (0 + x.first, h.wire)
      (by_position 0 wires x.first h.wire h.at) (lt-ltb limit h.wire.length h.longer))

-- ---- places by their tallies
abbrev pub is_more : {K : Type 0} → ℕ → K × Tally → Bool
is_more limit e = nat_lt limit e.1.count

abbrev pub crowded_finding : ℕ × Tally → Finding
crowded_finding e = record { first = e.0; second = e.1.count; third = 0 }

abbrev pub busy_finding : Finding × Tally → Finding
busy_finding e = e.0

pub finding_cmp_total : IsTotalOrder finding_cmp
finding_cmp_total =
    then_total (on_total (λ (f : Finding). f.first) nat_cmp_total)
    (then_total (on_total (λ (f : Finding). f.second) nat_cmp_total) (on_total (λ (f : Finding). f.third) nat_cmp_total))

then_equal : (a b : Ordering) → ordering_then a b ≡ Equal → (a ≡ Equal) × (b ≡ Equal)
then_equal Less b h = absurd (cc)
then_equal Equal b h = (refl, h)
then_equal Greater b h = absurd (cc)

finding-exact : CmpEqualImpliesEq finding_cmp
finding-exact f g h =
    let a = then_equal (nat_cmp f.first g.first) (ordering_then (nat_cmp f.second g.second) (nat_cmp f.third g.third)) h in
    let b = then_equal (nat_cmp f.second g.second) (nat_cmp f.third g.third) a.1 in
    finding-same f.first f.second f.third g (exact_unsigned _ _ a.0) (exact_unsigned _ _ b.0) (exact_unsigned _ _ b.1)

-- a place with more than the limit has a tally that says so
has_tally : (limit number : ℕ) (o : Option Tally) → count_in o ≡ number → limit < number
    → (t : Tally) × (o ≡ Some t) × (t.count ≡ number) × (nat_lt limit t.count ≡ true)
has_tally limit number None e h = absurd (omega (arith, e, h))
has_tally limit number (Some t) e h = (t, refl, e, lt-ltb limit t.count (subst (λ (n : ℕ). limit < n) (sym e) h))

-- the places picked are exactly the crowded segments
pub crowded-found : (limit : ℕ) (wires : List Wire) (m : BTreeMap ℕ Tally) → IsOrdered nat_cmp m
    → ((q : ℕ) → count_in (get nat_cmp m q) ≡ count_by (has_segment q) wires)
    → AreFindings 2 limit wires (picked (is_more limit) crowded_finding m.entries)
crowded-found limit wires m ordered counts = record {
  rising = picked-rising (is_more limit) crowded_finding nat_cmp finding_cmp keeps m.entries ordered;
  exactly = λ x. (to x, λ h. back x (is_crowded limit wires x 2 h refl));
} where
  keeps : (d e : ℕ × Tally) → nat_cmp d.0 e.0 ≡ Less → finding_cmp (crowded_finding d) (crowded_finding e) ≡ Less
  keeps d e less = ap (λ (o : Ordering). ordering_then o (ordering_then (nat_cmp d.1.count e.1.count) (nat_cmp 0 0))) less

  to : (x : Finding) → Contains (picked (is_more limit) crowded_finding m.entries) x → IsFound limit wires x 2
  to x h =
      let (e, has, passes, is) = from_picked (is_more limit) crowded_finding m.entries x h in
      let found : get nat_cmp m e.0 ≡ Some e.1 = (btree_map_get_iff nat_cmp_total exact_unsigned m ordered e.0 e.1).1 has in
      let first : e.0 ≡ x.first = ap (λ (f : Finding). f.first) is in
      let second : e.1.count ≡ x.second = ap (λ (f : Finding). f.second) is in
      let number : e.1.count ≡ count_by (has_segment e.0) wires = sym (ap count_in found) ∙ counts e.0 in
      crowded (record {
        number = sym second ∙ number ∙ ap (λ (s : ℕ). count_by (has_segment s) wires) first;
        more = subst (λ (n : ℕ). limit < n) second (ltb-true limit e.1.count passes);
        third = sym (ap (λ (f : Finding). f.third) is);
      })

  back : (x : Finding) → IsCrowdedSegment limit wires x → Contains (picked (is_more limit) crowded_finding m.entries) x
  back x h =
      let (t, found, count, passes) = has_tally limit x.second (get nat_cmp m x.first) (counts x.first ∙ sym h.number) h.more in
      subst (λ (f : Finding). Contains (picked (is_more limit) crowded_finding m.entries) f)
      (finding-same x.first t.count 0 x refl count (sym h.third))
      (into_picked (is_more limit) crowded_finding m.entries (x.first, t)
      ((btree_map_get_iff nat_cmp_total exact_unsigned m ordered x.first t).0 found) passes)

-- the places picked are exactly the busy splices
pub busy-found : (limit : ℕ) (wires : List Wire) (m : BTreeMap Finding Tally) → IsOrdered finding_cmp m
    → ((q : Finding) → count_in (get finding_cmp m q) ≡ count_by (ends_at_splice q.first q.second q.third) wires)
    → AreFindings 3 limit wires (picked (is_more limit) busy_finding m.entries)
busy-found limit wires m ordered counts = record {
  rising = picked-rising (is_more limit) busy_finding finding_cmp finding_cmp (λ d e less. less) m.entries ordered;
  exactly = λ x. (to x, λ h. back x (is_busy limit wires x 3 h refl));
} where
  to : (x : Finding) → Contains (picked (is_more limit) busy_finding m.entries) x → IsFound limit wires x 3
  to x h =
      let (e, has, passes, is) = from_picked (is_more limit) busy_finding m.entries x h in
      let found : get finding_cmp m e.0 ≡ Some e.1 = (btree_map_get_iff finding_cmp_total finding-exact m ordered e.0 e.1).1 has in
      let number : e.1.count ≡ count_by (ends_at_splice e.0.first e.0.second e.0.third) wires =
      sym (ap count_in found) ∙ counts e.0 in
      busy (subst (λ (f : Finding). limit < count_by (ends_at_splice f.first f.second f.third) wires) is
      (subst (λ (n : ℕ). limit < n) number (ltb-true limit e.1.count passes)))

  back : (x : Finding) → IsBusySplice limit wires x → Contains (picked (is_more limit) busy_finding m.entries) x
  back x h =
      let (t, found, count, passes) = has_tally limit (count_by (ends_at_splice x.first x.second x.third) wires)
      (get finding_cmp m x) (counts x) h in
      into_picked (is_more limit) busy_finding m.entries (x, t)
      ((btree_map_get_iff finding_cmp_total finding-exact m ordered x t).0 found) passes

-- where nothing is left to pick, the findings are what was picked of all
pub long-done : (limit : ℕ) (wires : List Wire) (i : ℕ) (found : List Finding) → length wires ≤ i
    → found ++ picked (is_longer limit) long_finding (enumerate_from i (drop i wires))
    ≡ picked (is_longer limit) long_finding (enumerate_from 0 wires)
    → AreFindings 1 limit wires found
long-done limit wires i found h so =
    subst (AreFindings 1 limit wires)
    (sym so ∙ ap (λ (ws : List Wire). found ++ picked (is_longer limit) long_finding (enumerate_from i ws)) (drop_all i wires h)
    ∙ append-nil found) (long-found limit wires)

pub crowded-done : (limit : ℕ) (wires : List Wire) (m : BTreeMap ℕ Tally) (left : List (ℕ × Tally)) (found : List Finding) → left ≡ []
    → found ++ picked (is_more limit) crowded_finding left ≡ picked (is_more limit) crowded_finding m.entries
    → IsOrdered nat_cmp m → ((q : ℕ) → count_in (get nat_cmp m q) ≡ count_by (has_segment q) wires)
    → AreFindings 2 limit wires found
crowded-done limit wires m left found none so ordered counts =
    subst (AreFindings 2 limit wires)
    (sym so ∙ ap (λ (es : List (ℕ × Tally)). found ++ picked (is_more limit) crowded_finding es) none ∙ append-nil found)
    (crowded-found limit wires m ordered counts)

pub busy-done : (limit : ℕ) (wires : List Wire) (m : BTreeMap Finding Tally) (left : List (Finding × Tally)) (found : List Finding)
    → left ≡ [] → found ++ picked (is_more limit) busy_finding left ≡ picked (is_more limit) busy_finding m.entries
    → IsOrdered finding_cmp m
    → ((q : Finding) → count_in (get finding_cmp m q) ≡ count_by (ends_at_splice q.first q.second q.third) wires)
    → AreFindings 3 limit wires found
busy-done limit wires m left found none so ordered counts =
    subst (AreFindings 3 limit wires)
    (sym so ∙ ap (λ (es : List (Finding × Tally)). found ++ picked (is_more limit) busy_finding es) none ∙ append-nil found)
    (busy-found limit wires m ordered counts)
