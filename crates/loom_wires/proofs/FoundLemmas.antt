-- The wires of sets, found set by set.
use Rattle.std.proofs.Common.{◌≡◌, ℕ, ◌+◌, ◌<◌, ◌≤◌, inl, inr, Bool, true, false, cond, ◌||◌, Option, Some, None, slice_get, List, [], ◌∷◌, ◌++◌, length, take, get_or, refl, sym, ap, subst, ◌∙◌, arith, append-nil}
use Rattle.std.specs.List.{All, AllPairs, list_any, Contains}
use Rattle.std.specs.Option.{unwrap_or}
use Rattle.std.specs.Map.{lookup, keys_of}
use Rattle.std.specs.BTreeMap.{get, keys, btree_map_len, is_at, IsOrdered, IsEmpty}
use Rattle.std.specs.Ordering.{is_eq}
use Rattle.std.specs.Cmp.{IsTotalOrder, on_total}
use Rattle.std.proofs.lemmas.Cmp.{tied_itself}
use Rattle.std.proofs.lemmas.List.{get_or-map, length-map, take_all, length-take-le}
use Rattle.std.proofs.lemmas.List.Elements.{Contains-get_or}
use Rattle.std.proofs.lemmas.Map.Entries.{place_from_lookup, btree_map_get_place}
use Rattle.std.proofs.lemmas.Map.Keys.{Less-from_sorted}
use Rattle.std.proofs.lemmas.Option.{slice_get-get_or, slice_get_within, get_or_from_slice_get}
use Rattle.loom_base.proofs.Contained.{Contains-cases, Contains-map, Contains-from_map}
use Rattle.loom_topology.specs.Topology.{TopologyView}
use Rattle.loom_types.specs.declared.plan.PinLine.{PinLine}
use Rattle.loom_types.specs.declared.wire.Wire.{Wire}
use Rattle.loom_types.specs.WireOrder.{wire_cmp, IsWireBefore}
use Rattle.loom_wires.specs.declared.laid_set.LaidSet.{LaidSet}
use Rattle.loom_wires.specs.declared.wire_key.WireKey.{WireKey}
use Rattle.loom_wires.specs.Wires.{is_same_wire, has_wire, wires_of_set, AreManyWires}
use Rattle.loom_wires.specs.WireTotals.{wire_cmp_total}
use Rattle.loom_wires.specs.FoundWires.{positions, Found, key_cmp, wires_of, with_position, AreNoted, AreFound}
use Rattle.loom_wires.proofs.NoteLemmas.{is_same_wire-back, equal_from_is_eq}
use Rattle.loom_wires.proofs.Positions.{positions-more, positions-below, positions-some, with_position-new}
use Rattle.loom_wires.proofs.SomeWires.{some_wires, some_wires-are}
use Rattle.loom_wires.proofs.UniqueWires.{rise-from_pairs, length-le}
use Rattle.loom_wires.proofs.WireLengths.{measured, exact_wires}

key_cmp_total : IsTotalOrder key_cmp
key_cmp_total = on_total (λ (k : WireKey). k.wire) wire_cmp_total

-- a list that is not empty
abbrev pub listed : List ℕ → Option (List ℕ)
listed [] = None
listed (n ∷ ns) = Some (n ∷ ns)

unwrap_or-listed : (ns : List ℕ) → unwrap_or (listed ns) [] ≡ ns
unwrap_or-listed [] = refl
unwrap_or-listed (n ∷ ns) = refl

listed-push : (ns : List ℕ) (n : ℕ) → listed (ns ++ n ∷ []) ≡ Some (ns ++ n ∷ [])
listed-push [] n = refl
listed-push (m ∷ ns) n = refl

listed-is : (ns ms : List ℕ) → listed ns ≡ Some ms → ms ≡ ns
listed-is [] ms e = absurd (cc)
listed-is (n ∷ ns) ms e = cc

none_listed : (ns : List ℕ) → listed ns ≡ None → ns ≡ []
none_listed [] e = refl
none_listed (n ∷ ns) e = absurd (cc)

module _ (topology : TopologyView) (pins : List PinLine) (sets : List LaidSet) where
  -- the wires of the first k sets are found
  pub record FoundSoFar (k : ℕ) (found : Found) : Type 0 where
    pub at : (key : WireKey) → get key_cmp found key ≡ listed (positions (has_wire topology pins key.wire) (take k sets))
    pub each : (key : WireKey) → Contains (keys found) key → (set : LaidSet) × Contains sets set × Contains (wires_of_set topology pins set) key.wire
    pub ordered : IsOrdered key_cmp found

  pub found-init : (found : Found) → IsEmpty found → IsOrdered key_cmp found → FoundSoFar 0 found
  found-init found empty ordered = record {
    at = λ key. ap (lookup (is_at (key_cmp key))) empty;
    each = λ key has. let none = subst (λ es. Contains (keys_of es) key) empty has in absurd (omega (arith, none.1));
    ordered = ordered;
  }

  module _ (k : ℕ) (set : LaidSet) (lt : k < length sets) (at_k : set ≡ get_or sets k set) (wires : List Wire) (of_set : wires ≡ wires_of_set topology pins set) where
    one_more : (key : WireKey) (b : Bool) (one two : Option (List ℕ)) → b ≡ has_wire topology pins key.wire set → one ≡ listed (positions (has_wire topology pins key.wire) (take k sets))
        → two ≡ cond b (Some (with_position k (unwrap_or one []))) one → two ≡ listed (positions (has_wire topology pins key.wire) (take (k + 1) sets))
    one_more key b one two has before after =
        after ∙ by b ∙ ap (λ c. listed (ns ++ cond c (k ∷ []) [])) has ∙ ap listed (sym (positions-more p sets k set lt at_k))
      where
        p : LaidSet → Bool
        p = has_wire topology pins key.wire

        ns : List ℕ
        ns = positions p (take k sets)

        below : All (λ n. n < k) ns
        below = positions-below p 0 k (take k sets) (let long = length-take-le k sets (omega arith) in omega arith)

        by : (c : Bool) → cond c (Some (with_position k (unwrap_or one []))) one ≡ listed (ns ++ cond c (k ∷ []) [])
        by true =
            ap (λ o. Some (with_position k (unwrap_or o []))) before ∙ ap (λ l. Some (with_position k l)) (unwrap_or-listed ns)
            ∙ ap Some (with_position-new k ns below) ∙ sym (listed-push ns k)
        by false = before ∙ ap listed (sym (append-nil ns))

    pub found-next : (found next : Found) → FoundSoFar k found → AreNoted k wires found next → FoundSoFar (k + 1) next
    found-next found next s noted = record {
      at = λ key. one_more key (list_any (is_same_wire key.wire) wires) (get key_cmp found key) (get key_cmp next key) (ap (list_any (is_same_wire key.wire)) of_set) (s.at key) (noted.noted key);
      each = λ key has. elim (noted.keys key has) [
        | inl here ↦ (set, subst (Contains sets) (sym at_k) (Contains-get_or sets k set lt), subst (λ l. Contains l key.wire) of_set here)
        | inr before ↦ s.each key before
      ];
      ordered = noted.ordered s.ordered;
    }

  module _ (found : Found) (k : ℕ) (s : FoundSoFar k found) where
    pub found-order : AllPairs IsWireBefore (wires_of found)
    found-order i j d before within =
        let long = length-map (keys found) (λ (q : WireKey). q.wire) in
        let key : WireKey = record { wire = d } in
        let low : i < length (keys found) = omega arith in
        let high : j < length (keys found) = omega arith in
        let first = get_or-map (λ (q : WireKey). q.wire) (keys found) i key d low in
        let last = get_or-map (λ (q : WireKey). q.wire) (keys found) j key d high in
        subst (λ (w : Wire). IsWireBefore w (get_or (wires_of found) j d)) (sym first)
        (subst (λ (w : Wire). IsWireBefore (get_or (keys found) i key).wire w) (sym last)
        (Less-from_sorted key_cmp (keys found) i j key s.ordered before high))

    pub found-each : (w : Wire) → Contains (wires_of found) w → (set : LaidSet) × Contains sets set × Contains (wires_of_set topology pins set) w
    found-each w has =
        let (key, among, is) = Contains-from_map (λ (q : WireKey). q.wire) (keys found) w has in
        let (set, of, wire) = s.each key among in
        (set, of, subst (Contains (wires_of_set topology pins set)) is wire)

    -- where too many are found there are too many
    pub found-many : 65536 < btree_map_len found → AreManyWires 65536 topology pins sets
    found-many many =
        let all = some_wires-are topology pins sets in
        let fewer = length-le (some_wires topology pins sets) (wires_of found) (rise-from_pairs (wires_of found) found-order) (rise-from_pairs (some_wires topology pins sets) all.order)
        (λ w has. let of = found-each w has in all.all of.0 w of.1 of.2) in
        let long = length-map (keys found) (λ (q : WireKey). q.wire) in
        let entries = length-map found.entries (λ (p : WireKey × List ℕ). p.0) in
        (some_wires topology pins sets, all, omega (arith, many, fewer, long, entries))

  module _ (found : Found) (k : ℕ) (past : length sets ≤ k) (s : FoundSoFar k found) where
    at_all : (key : WireKey) → get key_cmp found key ≡ listed (positions (has_wire topology pins key.wire) sets)
    at_all key = s.at key ∙ ap (λ l. listed (positions (has_wire topology pins key.wire) l)) (take_all k sets past)

    has_own : (w : Wire) (ws : List Wire) → Contains ws w → list_any (is_same_wire w) ws ≡ true
    has_own w [] has = absurd (omega (arith, has.1))
    has_own w (v ∷ ws) has = elim (Contains-cases w v ws has) [
      | inl same ↦ first (is_same_wire w v) (list_any (is_same_wire w) ws) (ap (is_same_wire w) same ∙ is_same_wire-back w w ∙ ap is_eq (tied_itself wire_cmp_total w))
      | inr later ↦ last (is_same_wire w v) (list_any (is_same_wire w) ws) (has_own w ws later)
    ]
      where
        first : (b c : Bool) → b ≡ true → (b || c) ≡ true
        first b c e = ap (λ d. d || c) e

        last : (b c : Bool) → c ≡ true → (b || c) ≡ true
        last true c e = refl
        last false c e = e

    -- a wire of a set is found under a key that is equal to it
    stands : (w : Wire) (set : LaidSet) → Contains sets set → Contains (wires_of_set topology pins set) w → (key : WireKey) × Contains (keys found) key × (key.wire ≡ w)
    stands w set of has =
        let here : WireKey = record { wire = w } in
        let some = positions-some (has_wire topology pins w) 0 sets set of (has_own w (wires_of_set topology pins set) has) in
        by (positions (has_wire topology pins w) sets) some (at_all here)
      where
        by : (ns : List ℕ) → (ns ≡ [] → ⊥) → get key_cmp found (record { wire = w }) ≡ listed ns → (key : WireKey) × Contains (keys found) key × (key.wire ≡ w)
        by [] some e = absurd (some refl)
        by (n ∷ ns) some e =
            let (i, key, entry, tied) = place_from_lookup (is_at (key_cmp (record { wire = w }))) found.entries (n ∷ ns) e in
            let among : Contains (keys found) key = Contains-map (λ (p : WireKey × List ℕ). p.0) found.entries (key, n ∷ ns) (entry_among i (key, n ∷ ns) entry) in
            let (other, of_other, wire) = s.each key among in
            (key, among, sym (exact_wires topology w key.wire (measured topology pins set w has) (measured topology pins other key.wire wire) (equal_from_is_eq (wire_cmp w key.wire) tied)))
          where
            entry_among : (i : ℕ) (p : WireKey × List ℕ) → slice_get found.entries i ≡ Some p → Contains found.entries p
            entry_among i p e = (i, slice_get_within found.entries i p e, get_or_from_slice_get found.entries i p p e)

    pub found-done : AreFound topology pins sets found
    found-done = record {
      wires = record {
        order = found-order found k s;
        each = found-each found k s;
        all = λ set w of has.
            let (key, among, is) = stands w set of has in
            subst (Contains (wires_of found)) is (Contains-map (λ (q : WireKey). q.wire) (keys found) key among);
      };
      users = λ i d lt.
          let e = get_or found.entries i d in
          listed-is (positions (has_wire topology pins e.0.wire) sets) e.1
          (sym (at_all e.0) ∙ btree_map_get_place key_cmp_total found i e.0 e.1 s.ordered (slice_get-get_or found.entries i d lt));
    }
