-- The position of a set, noted at one wire after another.
use Rattle.std.proofs.Common.{◌≡◌, ℕ, ◌⊎◌, inl, inr, Bool, true, false, cond, ◌||◌, Option, Some, None, List, [], ◌∷◌, ◌++◌, refl, sym, ap, subst, ◌∙◌, append_assoc, append-nil}
use Rattle.std.specs.List.{All, list_any, Contains}
use Rattle.std.specs.Option.{unwrap_or}
use Rattle.std.specs.Map.{keys_of, remove_entry}
use Rattle.std.specs.BTreeMap.{get, get_by, keys, insert_entry, IsOrdered}
use Rattle.std.specs.declared.cmp.Ordering.{Ordering}
use Rattle.std.specs.declared.cmp.Ordering.TheVariants.{Less, Equal, Greater}
use Rattle.std.specs.Ordering.{is_eq, ordering_reverse}
use Rattle.std.proofs.lemmas.List.Elements.{All-nil, All-cons, All-weaker, All-contains, All-contains_itself, Contains-append_left, Contains-append_right}
use Rattle.std.proofs.lemmas.List.Folds.{list_any-append}
use Rattle.std.proofs.lemmas.Map.Views.{All-keys-insert_entry}
use Rattle.loom_base.proofs.Contained.{Contains-here}
use Rattle.loom_types.specs.declared.wire.Wire.{Wire}
use Rattle.loom_types.specs.WireOrder.{wire_cmp}
use Rattle.loom_wires.specs.declared.wire_key.WireKey.{WireKey}
use Rattle.loom_wires.specs.Wires.{is_equal, is_same_wire}
use Rattle.loom_wires.specs.WireTotals.{wire_cmp_total}
use Rattle.loom_wires.specs.FoundWires.{Found, key_cmp, positions_at, with_position, AreNoted}
use Rattle.loom_wires.proofs.Positions.{with_position-again}

equal-reverse : (o : Ordering) → is_equal (ordering_reverse o) ≡ is_eq o
equal-reverse Less = refl
equal-reverse Equal = refl
equal-reverse Greater = refl

-- the test of equal wires, from the other side
pub is_same_wire-back : (w v : Wire) → is_same_wire w v ≡ is_eq (wire_cmp v w)
is_same_wire-back w v = ap is_equal (wire_cmp_total.antisymm w v) ∙ equal-reverse (wire_cmp v w)

pub equal_from_is_eq : (o : Ordering) → is_eq o ≡ true → o ≡ Equal
equal_from_is_eq Less e = absurd (cc)
equal_from_is_eq Equal e = refl
equal_from_is_eq Greater e = absurd (cc)

-- equal keys find the same
pub get-same : (m : Found) (one other : WireKey) → wire_cmp one.wire other.wire ≡ Equal → get key_cmp m one ≡ get key_cmp m other
get-same m one other tied = ap (λ f. get_by f m) (λ i k. wire_cmp_total.congr one.wire other.wire k.wire tied i)

-- ---- one wire

module _ (at : ℕ) (wire : Wire) (old mid new : Found) (list : List ℕ) where
  abbrev here : WireKey
  here = record { wire = wire }

  module _ (removed : (q : WireKey) → get key_cmp mid q ≡ cond (is_eq (wire_cmp wire q.wire)) None (get key_cmp old q))
      (inserted : (q : WireKey) → get key_cmp new q ≡ cond (is_eq (wire_cmp wire q.wire)) (Some list) (get key_cmp mid q))
      (noted : list ≡ with_position at (positions_at old here)) where
    at_key : (q : WireKey) → get key_cmp new q ≡ cond (list_any (is_same_wire q.wire) (wire ∷ [])) (Some (with_position at (positions_at old q))) (get key_cmp old q)
    at_key q = inserted q ∙ by (is_eq (wire_cmp wire q.wire)) refl ∙ ap (λ b. cond b (Some (with_position at (positions_at old q))) (get key_cmp old q)) (same_test ∙ sym (or_false (is_same_wire q.wire wire)))
      where
        same_test : is_eq (wire_cmp wire q.wire) ≡ is_same_wire q.wire wire
        same_test = sym (is_same_wire-back q.wire wire)

        or_false : (b : Bool) → (b || false) ≡ b
        or_false true = refl
        or_false false = refl

        by : (b : Bool) → is_eq (wire_cmp wire q.wire) ≡ b → cond b (Some list) (get key_cmp mid q) ≡ cond b (Some (with_position at (positions_at old q))) (get key_cmp old q)
        by true e = ap Some (noted ∙ ap (λ o. with_position at (unwrap_or o [])) (get-same old here q (equal_from_is_eq (wire_cmp wire q.wire) e)))
        by false e = removed q ∙ ap (λ b. cond b None (get key_cmp old q)) e

    pub noted-one : keys_of mid.entries ≡ keys mid → ((q : WireKey) → Contains (keys mid) q → Contains (keys old) q)
        → new.entries ≡ insert_entry key_cmp mid.entries here list → IsOrdered key_cmp new → AreNoted at (wire ∷ []) old new
    noted-one same kept entries ordered = record {
      noted = at_key;
      keys = λ q listed.
          All-contains (λ k. Contains (wire ∷ []) k.wire ⊎ Contains (keys old) k) (keys new) q
          (subst (λ es. All (λ k. Contains (wire ∷ []) k.wire ⊎ Contains (keys old) k) (keys_of es)) (sym entries)
          (All-keys-insert_entry key_cmp here list (λ k. Contains (wire ∷ []) k.wire ⊎ Contains (keys old) k) mid.entries
          (All-weaker (Contains (keys mid)) (λ k. Contains (wire ∷ []) k.wire ⊎ Contains (keys old) k) (λ k h. inr (kept k h)) (keys mid) (All-contains_itself (keys mid)))
          (inl (Contains-here wire []))))
          listed;
      ordered = λ _. ordered;
    }

all_kept : (test : WireKey → Bool) (es : List (WireKey × List ℕ)) → All (Contains (keys_of es)) (keys_of (remove_entry test es))
all_kept test [] = All-nil (Contains [])
all_kept test (e ∷ es) = by (test e.0) (all_kept test es)
  where
    later : (ks : List WireKey) → All (Contains (keys_of es)) ks → All (Contains (keys_of (e ∷ es))) ks
    later ks h = All-weaker (Contains (keys_of es)) (Contains (keys_of (e ∷ es))) (λ k c. Contains-append_right (e.0 ∷ []) (keys_of es) k c) ks h

    by : (b : Bool) → All (Contains (keys_of es)) (keys_of (remove_entry test es)) → All (Contains (keys_of (e ∷ es))) (keys_of (cond b es (e ∷ remove_entry test es)))
    by true rest = later (keys_of es) (All-contains_itself (keys_of es))
    by false rest = All-cons (Contains (keys_of (e ∷ es))) e.0 (keys_of (remove_entry test es)) (Contains-here e.0 (keys_of es)) (later (keys_of (remove_entry test es)) rest)

-- what is left once an entry is taken out was there
pub kept-removed : (test : WireKey → Bool) (es : List (WireKey × List ℕ)) (q : WireKey) → Contains (keys_of (remove_entry test es)) q → Contains (keys_of es) q
kept-removed test es q listed = All-contains (Contains (keys_of es)) (keys_of (remove_entry test es)) q (all_kept test es) listed

-- ---- one wire after another

pub noted-none : (at : ℕ) (m : Found) → AreNoted at [] m m
noted-none at m = record { noted = λ key. refl; keys = λ key listed. inr listed; ordered = λ h. h }

both_noted : (at : ℕ) (b d : Bool) (one two three : Option (List ℕ)) → two ≡ cond b (Some (with_position at (unwrap_or one []))) one
    → three ≡ cond d (Some (with_position at (unwrap_or two []))) two → three ≡ cond (b || d) (Some (with_position at (unwrap_or one []))) one
both_noted at true true one two three e f = f ∙ ap (λ o. Some (with_position at (unwrap_or o []))) e ∙ ap Some (with_position-again at (unwrap_or one []))
both_noted at true false one two three e f = f ∙ e
both_noted at false true one two three e f = f ∙ ap (λ o. Some (with_position at (unwrap_or o []))) e
both_noted at false false one two three e f = f ∙ e

pub noted-then : (at : ℕ) (xs ys : List Wire) (a b c : Found) → AreNoted at xs a b → AreNoted at ys b c → AreNoted at (xs ++ ys) a c
noted-then at xs ys a b c first second = record {
  noted = λ key.
      both_noted at (list_any (is_same_wire key.wire) xs) (list_any (is_same_wire key.wire) ys) (get key_cmp a key) (get key_cmp b key) (get key_cmp c key) (first.noted key) (second.noted key)
      ∙ ap (λ t. cond t (Some (with_position at (positions_at a key))) (get key_cmp a key)) (sym (list_any-append (is_same_wire key.wire) xs ys));
  keys = λ key listed. elim (second.keys key listed) [
    | inl here ↦ inl (Contains-append_right xs ys key.wire here)
    | inr before ↦ elim (first.keys key before) [
      | inl here ↦ inl (Contains-append_left xs ys key.wire here)
      | inr had ↦ inr had
    ]
  ];
  ordered = λ h. second.ordered (first.ordered h);
}

-- the wires before the rest are noted
pub record NotedSoFar (at : ℕ) (wires rest : List Wire) (old now : Found) : Type 0 where
  pub done : List Wire
  pub split : wires ≡ done ++ rest
  pub noted : AreNoted at done old now

pub noted-init : (at : ℕ) (wires : List Wire) (m : Found) → NotedSoFar at wires wires m m
noted-init at wires m = record { done = []; split = refl; noted = noted-none at m }

pub noted-next : (at : ℕ) (wires : List Wire) (wire : Wire) (rest : List Wire) (old now next : Found) → NotedSoFar at wires (wire ∷ rest) old now → AreNoted at (wire ∷ []) now next → NotedSoFar at wires rest old next
noted-next at wires wire rest old now next s n = record {
  done = s.done ++ wire ∷ [];
  split = s.split ∙ sym (append_assoc s.done (wire ∷ []) rest);
  noted = noted-then at s.done (wire ∷ []) old now next s.noted n;
}

pub noted-done : (at : ℕ) (wires : List Wire) (old now : Found) → NotedSoFar at wires [] old now → AreNoted at wires old now
noted-done at wires old now s = subst (λ l. AreNoted at l old now) (sym (s.split ∙ append-nil s.done)) s.noted
