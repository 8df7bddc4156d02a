-- What is kept under the keys of nets.
use Rattle.std.proofs.Common.{◌≡◌, ℕ, Bool, true, false, ◌||◌, ◌+◌, ◌<◌, ◌≤◌, ◌↔◌, ◌⊎◌, List, [], ◌∷◌, ◌++◌, length, map, filter, get_or, take, if◌then◌else◌, refl, sym, ap, subst, ◌∙◌, arith, inl, inr, Contains}
use Rattle.std.specs.List.{list_any}
use Rattle.std.proofs.lemmas.List.{take_more, take_all}
use Rattle.std.proofs.lemmas.List.Elements.{All-contains, Contains-append_left, Contains-push, Contains-push_cases, Contains-get_or}
use Rattle.indexmap.specs.IndexSet.{insert_key}
use Rattle.indexmap.proofs.CallerLemmas.{Contains-list_any, Contains-insert_key}
use Rattle.loom_base.proofs.Contained.{Contains-cases, Contains-map, Contains-from_map, Contains-filter, Contains-from_filter}
use Rattle.loom_base.specs.declared.positions.NetNo.{NetNo}
use Rattle.loom_project.specs.declared.draft.Draft.{Draft}
use Rattle.loom_laid.specs.declared.key.TableKey.{TableKey}
use Rattle.loom_laid.specs.declared.kept.Entry.{Entry}
use Rattle.loom_laid.specs.Kept.{KeptTable, IsTrueOf, AreTrueOf, keys_of, key_of}
use Rattle.loom_laid.specs.Keys.{pair_of, AreKeysOf}
use Rattle.loom_laid.specs.KeptInside.{kept_of}
use Rattle.loom_laid.proofs.KeyLemmas.{key_eq, key-same, key-itself, pair-same}

abbrev Key : Type 0
Key = List ℕ × List ℕ

inserted-cases : (keys : List TableKey) (k key : TableKey) → Contains (insert_key key_eq keys k) key → Contains keys key ⊎ (k ≡ key)
inserted-cases keys k key at = by (list_any (key_eq k) keys) at
  where
    by : (b : Bool) → Contains (if b then keys else keys ++ k ∷ []) key → Contains keys key ⊎ (k ≡ key)
    by true there = inl there
    by false there = Contains-push_cases keys k key there

inserted-keeps : (keys : List TableKey) (k key : TableKey) → Contains keys key → Contains (insert_key key_eq keys k) key
inserted-keeps keys k key at = by (list_any (key_eq k) keys)
  where
    by : (b : Bool) → Contains (if b then keys else keys ++ k ∷ []) key
    by true = at
    by false = Contains-append_left keys (k ∷ []) key at

pub keys-more : (draft : Draft) (nets : List NetNo) (i : ℕ) (d : NetNo) (keys more : List TableKey) (k : TableKey) → AreKeysOf draft (take i nets) keys
    → i < length nets → pair_of k ≡ key_of draft (get_or nets i d).0 → more ≡ insert_key key_eq keys k → AreKeysOf draft (take (i + 1) nets) more
keys-more draft nets i d keys more k so_far lt under inserted key =
    let net = get_or nets i d in
    let taken : take (i + 1) nets ≡ take i nets ++ net ∷ [] = take_more nets i d lt in (
      (λ at. elim (inserted-cases keys k key (subst (λ (l : List TableKey). Contains l key) inserted at)) [
        | inl earlier ↦
            let some = (so_far key).0 earlier in
            (some.0, subst (λ (l : List NetNo). Contains l some.0) (sym taken) (Contains-append_left (take i nets) (net ∷ []) some.0 some.1), some.2)
        | inr same ↦
            (net, subst (λ (l : List NetNo). Contains l net) (sym taken) (Contains-push (take i nets) net), ap pair_of (sym same) ∙ under)
      ]),
      (λ some. subst (λ (l : List TableKey). Contains l key) (sym inserted) (elim (Contains-push_cases (take i nets) net some.0 (subst (λ (l : List NetNo). Contains l some.0) taken some.1)) [
        | inl earlier ↦ inserted-keeps keys k key ((so_far key).1 (some.0, earlier, some.2))
        | inr same ↦
            let e : k ≡ key = pair-same k key (under ∙ ap (λ (n : NetNo). key_of draft n.0) same ∙ sym some.2) in
            subst (Contains (insert_key key_eq keys k)) e (Contains-insert_key key_eq key-same keys k)
      ])),
    )

pub keys-all : (draft : Draft) (nets : List NetNo) (i : ℕ) (keys : List TableKey) → AreKeysOf draft (take i nets) keys → length nets ≤ i → AreKeysOf draft nets keys
keys-all draft nets i keys so_far whole = subst (λ (l : List NetNo). AreKeysOf draft l keys) (take_all i nets whole) so_far

list_any-of_contains : (keys : List TableKey) (k : TableKey) → Contains keys k → list_any (key_eq k) keys ≡ true
list_any-of_contains [] k at = absurd (let lt = at.1 in omega (arith, lt))
list_any-of_contains (x ∷ keys) k at = elim (Contains-cases k x keys at) [
  | inl here ↦ ap (λ b. b || list_any (key_eq k) keys) (ap (key_eq k) here ∙ key-itself k)
  | inr later ↦ by (key_eq k x) (list_any-of_contains keys k later)
]
  where
    by : (b : Bool) → list_any (key_eq k) keys ≡ true → (b || list_any (key_eq k) keys) ≡ true
    by true e = refl
    by false e = e

abbrev pub is_live : List TableKey → TableKey × Entry → Bool
is_live live entry = list_any (key_eq entry.0) live

module _ (draft : Draft) (nets : List NetNo) (live : List TableKey) (are : AreKeysOf draft nets live) (shown next : List KeptTable)
    (old new : List (TableKey × Entry)) (before : map kept_of old ≡ shown) (after : map kept_of new ≡ next)
    (retained : new ≡ filter (is_live live) old) where
  entry-of : (key : Key) (entries : List (TableKey × Entry)) → Contains (keys_of (map kept_of entries)) key
      → (entry : TableKey × Entry) × Contains entries entry × (pair_of entry.0 ≡ key)
  entry-of key entries at =
      let shown' = Contains-from_map (λ (one : KeptTable). (one.class, one.nodes)) (map kept_of entries) key at in
      let entry = Contains-from_map kept_of entries shown'.0 shown'.1 in
      (entry.0, entry.1, ap (λ (one : KeptTable). (one.class, one.nodes)) entry.2 ∙ shown'.2)

  has-entry : (key : Key) (entries : List (TableKey × Entry)) (entry : TableKey × Entry) → Contains entries entry → pair_of entry.0 ≡ key
      → Contains (keys_of (map kept_of entries)) key
  has-entry key entries entry at same =
      subst (Contains (keys_of (map kept_of entries))) same
      (Contains-map (λ (one : KeptTable). (one.class, one.nodes)) (map kept_of entries) (kept_of entry) (Contains-map kept_of entries entry at))

  pub live-keys-stay : (key : Key) → Contains (keys_of next) key ↔ (Contains (keys_of shown) key × ((net : NetNo) × Contains nets net × (key ≡ key_of draft net.0)))
  live-keys-stay key = (
    (λ at.
        let found = entry-of key new (subst (λ (l : List KeptTable). Contains (keys_of l) key) (sym after) at) in
        let both = Contains-from_filter (is_live live) old found.0 (subst (λ (l : List (TableKey × Entry)). Contains l found.0) retained found.1) in
        let net = (are found.0.0).0 (Contains-list_any key_eq key-same live found.0.0 both.1) in (
          subst (λ (l : List KeptTable). Contains (keys_of l) key) before (has-entry key old found.0 both.0 found.2),
          (net.0, net.1, sym found.2 ∙ net.2),
        )),
    (λ both.
        let found = entry-of key old (subst (λ (l : List KeptTable). Contains (keys_of l) key) (sym before) both.0) in
        let net = both.1 in
        let there = (are found.0.0).1 (net.0, net.1, found.2 ∙ net.2) in
        let stays = Contains-filter (is_live live) old found.0 found.1 (list_any-of_contains live found.0.0 there) in
        subst (λ (l : List KeptTable). Contains (keys_of l) key) after
        (has-entry key new found.0 (subst (λ (l : List (TableKey × Entry)). Contains l found.0) (sym retained) stays) found.2)),
  )

  pub kept-among : (one : KeptTable) → Contains next one → Contains shown one
  kept-among one at =
      let found = Contains-from_map kept_of new one (subst (λ (l : List KeptTable). Contains l one) (sym after) at) in
      let both = Contains-from_filter (is_live live) old found.0 (subst (λ (l : List (TableKey × Entry)). Contains l found.0) retained found.1) in
      subst (λ (l : List KeptTable). Contains l one) before (subst (Contains (map kept_of old)) found.2 (Contains-map kept_of old found.0 both.0))

  pub kept-true : AreTrueOf draft shown → AreTrueOf draft next
  kept-true holds k d lt = All-contains (IsTrueOf draft) shown (get_or next k d) holds (kept-among (get_or next k d) (Contains-get_or next k d lt))
