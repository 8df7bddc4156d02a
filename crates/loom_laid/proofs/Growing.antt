-- How what is kept grows, one table after another.
use Rattle.std.proofs.Common.{◌≡◌, ◌≢◌, ℕ, ◌+◌, ◌-◌, ◌^◌, ◌<◌, ◌≤◌, min, List, [], ◌∷◌, ◌++◌, length, sym, ap, subst, ◌∙◌, arith, inl, inr, Contains, append-nil, append_assoc, length-append}
use Rattle.std.proofs.lemmas.Bool.{cases_lt}
use Rattle.std.proofs.lemmas.List.Elements.{Contains-append_left, Contains-append_right, Contains-append_cases}
use Rattle.std.proofs.Math.Nat.{min-eq_left, min-eq_right}
use Rattle.loom_base.specs.Causes.{next_count}
use Rattle.loom_base.proofs.Contained.{Contains-one}
use Rattle.loom_active.proofs.Pairs.{pairs-append}
use Rattle.loom_project.specs.declared.draft.Draft.{Draft}
use Rattle.loom_laid.specs.Kept.{KeptTable, keys_of, IsLiveKey, KeepsAll, RisesByNewKeys}
use Rattle.loom_laid.specs.Growth.{Grew}

abbrev Key : Type 0
Key = List ℕ × List ℕ

none-there : (key : Key) → Contains {X = Key} [] key → ⊥
none-there key at = let lt = at.1 in omega (arith, lt)

capped-none : (n : ℕ) → n < 2 ^ 64 → n ≡ min (n + 0) (2 ^ 64 - 1)
capped-none n lt = let le : n + 0 ≤ 2 ^ 64 - 1 = omega (arith, lt) in let e : n + 0 ≡ n = omega arith in sym (min-eq_left le ∙ e)

capped-more : (m n o a b cap : ℕ) → n ≡ min (m + a) cap → o ≡ min (n + b) cap → o ≡ min (m + (a + b)) cap
capped-more m n o a b cap first second =
    elim (cases_lt cap (m + a)) [
      | inl past ↦
          let full : n ≡ cap = first ∙ min-eq_right (omega (arith, past)) in
          let le : cap ≤ n + b = omega (arith, full) in
          let le' : cap ≤ m + (a + b) = omega (arith, past) in
          second ∙ min-eq_right le ∙ sym (min-eq_right le')
      | inr within ↦
          let same : n ≡ m + a = first ∙ min-eq_left (omega (arith, within)) in
          let e : n + b ≡ m + (a + b) = omega (arith, same) in
          second ∙ ap (λ k. min k cap) e
    ]

pub grew-none : (draft : Draft) (kept : List KeptTable) (count : ℕ) → count < 2 ^ 64 → Grew draft kept kept count count
grew-none draft kept count lt = record {
  keys = [];
  added = sym (append-nil (keys_of kept));
  different = λ i j d below within. absurd (omega (arith, within));
  are_new = λ key at. absurd (none-there key at);
  are_live = λ key at. absurd (none-there key at);
  count = capped-none count lt;
}

pub grew-one : (draft : Draft) (old new : List KeptTable) (before after : ℕ) (key : Key) → keys_of new ≡ keys_of old ++ key ∷ []
    → (Contains (keys_of old) key → ⊥) → IsLiveKey draft key → after ≡ next_count before → Grew draft old new before after
grew-one draft old new before after key added none live next = record {
  keys = key ∷ [];
  added = added;
  different = λ i j d below within. absurd (omega (arith, below, within));
  are_new = λ other at there. none (subst (Contains (keys_of old)) (sym (Contains-one other key at)) there);
  are_live = λ other at. subst (IsLiveKey draft) (Contains-one other key at) live;
  count = next;
}

pub grew-keeps : (draft : Draft) (old new : List KeptTable) (before after : ℕ) → Grew draft old new before after
    → (key : Key) → Contains (keys_of old) key → Contains (keys_of new) key
grew-keeps draft old new before after grew key at =
    subst (λ (l : List Key). Contains l key) (sym grew.added) (Contains-append_left (keys_of old) grew.keys key at)

grew-has : (draft : Draft) (old new : List KeptTable) (before after : ℕ) (grew : Grew draft old new before after)
    → (key : Key) → Contains grew.keys key → Contains (keys_of new) key
grew-has draft old new before after grew key at =
    subst (λ (l : List Key). Contains l key) (sym grew.added) (Contains-append_right (keys_of old) grew.keys key at)

pub grew-then : (draft : Draft) (a b c : List KeptTable) (m n o : ℕ) → Grew draft a b m n → Grew draft b c n o → Grew draft a c m o
grew-then draft a b c m n o one two = record {
  keys = one.keys ++ two.keys;
  added = two.added ∙ ap (λ l. l ++ two.keys) one.added ∙ append_assoc (keys_of a) one.keys two.keys;
  different =
      pairs-append (λ first second. first ≢ second) one.keys two.keys one.different two.different
      (λ x y at_x at_y e. two.are_new y at_y (subst (Contains (keys_of b)) e (grew-has draft a b m n one x at_x)));
  are_new = λ key at there. elim (Contains-append_cases one.keys two.keys key at) [
    | inl first ↦ one.are_new key first there
    | inr second ↦ two.are_new key second (grew-keeps draft a b m n one key there)
  ];
  are_live = λ key at. elim (Contains-append_cases one.keys two.keys key at) [
    | inl first ↦ one.are_live key first
    | inr second ↦ two.are_live key second
  ];
  count =
      capped-more m n o (length one.keys) (length two.keys) (2 ^ 64 - 1) one.count two.count
      ∙ ap (λ k. min (m + k) (2 ^ 64 - 1)) (sym (length-append one.keys two.keys));
}

pub grew-all : (draft : Draft) (old new : List KeptTable) (before after : ℕ) → Grew draft old new before after → KeepsAll draft old new
grew-all draft old new before after grew = record {
  all = grew-keeps draft old new before after grew;
  only = λ key at. elim (Contains-append_cases (keys_of old) grew.keys key (subst (λ (l : List Key). Contains l key) grew.added at)) [
    | inl there ↦ inl there
    | inr added ↦ inr (grew.are_live key added)
  ];
}

pub grew-rises : (draft : Draft) (old new : List KeptTable) (before after : ℕ) → Grew draft old new before after → RisesByNewKeys old new before after
grew-rises draft old new before after grew = record {
  keys = grew.keys;
  are_new = record {
    different = grew.different;
    are_new = λ key. (
      (λ at. (grew-has draft old new before after grew key at, grew.are_new key at)),
      (λ both. elim (Contains-append_cases (keys_of old) grew.keys key (subst (λ (l : List Key). Contains l key) grew.added both.0)) [
        | inl there ↦ absurd (both.1 there)
        | inr added ↦ added
      ]),
    );
  };
  count = grew.count;
}

-- it matters only under which keys something is kept
pub grew-same : (draft : Draft) (old new next : List KeptTable) (before after : ℕ) → Grew draft old new before after → keys_of next ≡ keys_of new
    → Grew draft old next before after
grew-same draft old new next before after grew same = record {
  keys = grew.keys;
  added = same ∙ grew.added;
  different = grew.different;
  are_new = grew.are_new;
  are_live = grew.are_live;
  count = grew.count;
}
