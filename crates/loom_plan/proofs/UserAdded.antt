-- A condition is added to those of one slot.
use Rattle.std.proofs.Common.{◌≡◌, ◌≤◌, ◌+◌, ℕ, Bool, true, false, cond, Option, None, Some, List, [], ◌∷◌, ◌++◌, length, refl, sym, ap, subst, ◌∙◌, arith}
use Rattle.std.specs.declared.cmp.Ordering.{Ordering}
use Rattle.std.specs.declared.cmp.Ordering.TheVariants.{Less, Equal, Greater}
use Rattle.std.specs.Cmp.{both_ways}
use Rattle.std.specs.Ordering.{is_eq, match_ordering}
use Rattle.std.specs.BTreeMap.{get, is_at, insert_entry}
use Rattle.std.specs.Map.{lookup}
use Rattle.std.proofs.lemmas.Bool.{true≢false}
use Rattle.loom_rows.specs.declared.cond.Cond.{Cond}
use Rattle.loom_plan.specs.SlotUsers.{Key, Users, key_cmp, conds_at}
use Rattle.loom_plan.proofs.SlotKeys.{key-same, key-here}

abbrev Entries : Type 0
Entries = List (Key × List Cond)

-- ---- one entry more at most

matched-few : {X : Type 0} (o : Ordering) (a b c : List X) (n : ℕ) → length a ≤ n → length b ≤ n → length c ≤ n → length (match_ordering o a b c) ≤ n
matched-few Less a b c n p q r = p
matched-few Equal a b c n p q r = q
matched-few Greater a b c n p q r = r

inserted-few : (entries : Entries) (key : Key) (conds : List Cond) → length (insert_entry key_cmp entries key conds) ≤ length entries + 1
inserted-few [] key conds = omega arith
inserted-few (e ∷ es) key conds =
    let more = inserted-few es key conds in
    matched-few (key_cmp key e.0) ((key, conds) ∷ e ∷ es) ((e.0, conds) ∷ es) (e ∷ insert_entry key_cmp es key conds) (length (e ∷ es) + 1) (omega arith) (omega arith) (omega arith)

-- ---- what is found

same-test : (a b : Key) → is_eq (key_cmp a b) ≡ is_eq (key_cmp b a)
same-test a b =
    both_ways (is_eq (key_cmp a b)) (is_eq (key_cmp b a))
    (λ e. subst (λ (k : Key). is_eq (key_cmp k a) ≡ true) (key-same a b e) (key-here a))
    (λ e. subst (λ (k : Key). is_eq (key_cmp k b) ≡ true) (key-same b a e) (key-here b))

cond-twice : {X : Type 0} (b : Bool) (x y z : X) → cond b x z ≡ cond b x (cond b y z)
cond-twice true x y z = refl
cond-twice false x y z = refl

cond-swap : {X : Type 0} (b d : Bool) (x y z : X) → (b ≡ true → d ≡ true → ⊥) → cond b x (cond d y z) ≡ cond d y (cond b x z)
cond-swap true true x y z apart = absurd (apart refl refl)
cond-swap true false x y z apart = refl
cond-swap false d x y z apart = refl

abbrev found : Key → Entries → Option (List Cond)
found q entries = lookup (is_at (key_cmp q)) entries

found-at : (o : Ordering) (key q : Key) (conds : List Cond) (e : Key × List Cond) (es more : Entries) → key_cmp key e.0 ≡ o
    → found q more ≡ cond (is_eq (key_cmp key q)) (Some conds) (found q es)
    → found q (match_ordering o ((key, conds) ∷ e ∷ es) ((e.0, conds) ∷ es) (e ∷ more)) ≡ cond (is_eq (key_cmp key q)) (Some conds) (found q (e ∷ es))
found-at Less key q conds e es more is rest = ap (λ b. cond b (Some conds) (found q (e ∷ es))) (same-test q key)
found-at Equal key q conds e es more is rest =
    let here : is_eq (key_cmp q e.0) ≡ is_eq (key_cmp key q) =
    ap (λ k. is_eq (key_cmp q k)) (sym (key-same key e.0 (ap is_eq is))) ∙ same-test q key in
    cond-twice (is_eq (key_cmp q e.0)) (Some conds) (Some e.1) (found q es)
    ∙ ap (λ b. cond b (Some conds) (found q (e ∷ es))) here
found-at Greater key q conds e es more is rest =
    ap (λ o. cond (is_eq (key_cmp q e.0)) (Some e.1) o) rest
    ∙ cond-swap (is_eq (key_cmp q e.0)) (is_eq (key_cmp key q)) (Some e.1) (Some conds) (found q es)
    (λ here there.
    let equal : is_eq (key_cmp key e.0) ≡ true =
    subst (λ k. is_eq (key_cmp key k) ≡ true) (key-same q e.0 here) there in
    true≢false (sym equal ∙ ap is_eq is))

found-inserted : (entries : Entries) (key q : Key) (conds : List Cond) → found q (insert_entry key_cmp entries key conds) ≡ cond (is_eq (key_cmp key q)) (Some conds) (found q entries)
found-inserted [] key q conds = ap (λ b. cond b (Some conds) None) (same-test q key)
found-inserted (e ∷ es) key q conds = found-at (key_cmp key e.0) key q conds e es (insert_entry key_cmp es key conds) refl (found-inserted es key q conds)

-- ---- the entries with one more condition

module _ (key : Key) (x : Cond) (old : Users) (new : Entries) (conds : List Cond) (inserted : new ≡ insert_entry key_cmp old.entries key conds) where
  pub added-few : length new ≤ length old.entries + 1
  added-few = let few = inserted-few old.entries key conds in let long = ap length inserted in omega arith

  pub added-at : (q : Key) → conds ≡ conds_at old key ++ x ∷ [] → found q new ≡ cond (is_eq (key_cmp key q)) (Some (conds_at old key ++ x ∷ [])) (get key_cmp old q)
  added-at q is =
      ap (found q) inserted ∙ found-inserted old.entries key q conds
      ∙ ap (λ l. cond (is_eq (key_cmp key q)) (Some l) (get key_cmp old q)) is
