-- Names in an index, and the numbers of harnesses.
use Rattle.std.proofs.Common.{◌≡◌, ℕ, ◌+◌, ◌≤◌, List, [], ◌∷◌, ◌++◌, length, map, Bool, true, false, ◌||◌, ◌&&◌, not, if◌then◌else◌, get_or, take, ◌<◌, refl, ap, ◌∙◌, bytes_eq, arith, length-append}
use Rattle.std.specs.Prelude.{fold}
use Rattle.std.specs.List.{list_any, list_all, position_or_len}
use Rattle.std.proofs.lemmas.Cmp.{nat_list_eq_equiv}
use Rattle.std.proofs.lemmas.List.Folds.{list_any-append}
use Rattle.std.proofs.lemmas.List.Sums.{fold-append}
use Rattle.std.proofs.lemmas.List.{length-map, length-take}
use Rattle.loom_formula.specs.NameIndex.{has_name, with_name}
use Rattle.loom_base.proofs.EachLemmas.{map_next}
use Rattle.loom_project.specs.declared.draft.NodeDraft.{NodeDraft}
use Rattle.loom_project.specs.Draft.{index_of, each_once, harness_labels}
use Rattle.loom_project.specs.Project.{placed_node, placed_nodes}

same_name : (name : List ℕ) → bytes_eq name name ≡ true
same_name = nat_list_eq_equiv.refl

or_true : (b : Bool) → (b || true) ≡ true
or_true true = refl
or_true false = refl

has_name-push : (names : List (List ℕ)) (name : List ℕ) → has_name (names ++ name ∷ []) name ≡ true
has_name-push names name =
    list_any-append (bytes_eq name) names (name ∷ []) ∙ rw (same_name name) (or_true (has_name names name))

-- a name that was added is there
pub has_name-added : (names : List (List ℕ)) (name : List ℕ) → has_name (with_name names name) name ≡ true
has_name-added names name =
    elim (has_name names name) as (λ b. has_name names name ≡ b → has_name (if b then names else names ++ name ∷ []) name ≡ true)
    [ true ↦ λ h. h | false ↦ λ h. has_name-push names name ] refl

has_name-append : (names rest : List (List ℕ)) (name : List ℕ) → has_name names name ≡ true → has_name (names ++ rest) name ≡ true
has_name-append names rest name h = list_any-append (bytes_eq name) names rest ∙ rw h refl

has_name-kept : (names : List (List ℕ)) (other name : List ℕ) → has_name names name ≡ true → has_name (with_name names other) name ≡ true
has_name-kept names other name h =
    elim (has_name names other) as (λ b. has_name (if b then names else names ++ other ∷ []) name ≡ true)
    [ true ↦ h | false ↦ has_name-append names (other ∷ []) name h ]

has_name-kept_all : (names others : List (List ℕ)) (name : List ℕ) → has_name names name ≡ true → has_name (fold with_name names others) name ≡ true
has_name-kept_all names [] name h = h
has_name-kept_all names (other ∷ others) name h = has_name-kept_all (with_name names other) others name (has_name-kept names other name h)

-- names that were put in are there
pub all_there : (names others : List (List ℕ)) → list_all (has_name (fold with_name names others)) others ≡ true
all_there names [] = refl
all_there names (other ∷ others) =
    rw (has_name-kept_all (with_name names other) others other (has_name-added names other)) (all_there (with_name names other) others)

length-with_name : (names : List (List ℕ)) (name : List ℕ) → length (with_name names name) ≤ length names + 1
length-with_name names name =
    elim (has_name names name) as (λ b. length (if b then names else names ++ name ∷ []) ≤ length names + 1)
    [ true ↦ omega arith | false ↦ omega (arith, length-append names (name ∷ [])) ]

length-fold : (names others : List (List ℕ)) → length (fold with_name names others) ≤ length names + length others
length-fold names [] = omega arith
length-fold names (other ∷ others) = omega (arith, length-fold (with_name names other) others, length-with_name names other)

-- there are no more names than were put in
pub length-each_once : (names : List (List ℕ)) → length (each_once names) ≤ length names
length-each_once names = omega (arith, length-fold [] names)

position_kept : (p : List ℕ → Bool) (xs ys : List (List ℕ)) → list_any p xs ≡ true → position_or_len p (xs ++ ys) ≡ position_or_len p xs
position_kept p [] ys h = cc
position_kept p (x ∷ xs) ys h =
    elim (p x) as (λ b. (b || list_any p xs) ≡ true → (if not b then 1 + position_or_len p (xs ++ ys) else 0) ≡ (if not b then 1 + position_or_len p xs else 0))
    [ true ↦ λ _. refl | false ↦ λ g. ap (λ n. 1 + n) (position_kept p xs ys g) ] h

place_kept : (names : List (List ℕ)) (other name : List ℕ) → has_name names name ≡ true → index_of (with_name names other) name ≡ index_of names name
place_kept names other name h =
    elim (has_name names other) as (λ b. index_of (if b then names else names ++ other ∷ []) name ≡ index_of names name)
    [ true ↦ refl | false ↦ position_kept (bytes_eq name) names (other ∷ []) h ]

split_and : (a b : Bool) → (a && b) ≡ true → (a ≡ true) × (b ≡ true)
split_and true b h = (refl, h)
split_and false b h = cc

same_numbers : (names : List (List ℕ)) (other : List ℕ) (nodes : List NodeDraft) → list_all (has_name names) (harness_labels nodes) ≡ true → map (placed_node (with_name names other)) nodes ≡ map (placed_node names) nodes
same_numbers names other [] h = refl
same_numbers names other (node ∷ nodes) h =
    let parts = split_and (has_name names node.harness) (list_all (has_name names) (harness_labels nodes)) h in
    ap (λ n. (record { harness = n; branch = node.branch }) ∷ map (placed_node (with_name names other)) nodes) (place_kept names other node.harness parts.0)
    ∙ ap (λ ns. placed_node names node ∷ ns) (same_numbers names other nodes parts.1)

-- the harnesses with those of one more node
pub harnesses_next : (xs : List NodeDraft) (i : ℕ) (x : NodeDraft) → x ≡ get_or xs i x → i < length xs → each_once (harness_labels (take (i + 1) xs)) ≡ with_name (each_once (harness_labels (take i xs))) x.harness
harnesses_next xs i x is lt =
    ap each_once (map_next (λ node. node.harness) xs i x is lt) ∙ fold-append with_name [] (harness_labels (take i xs)) (x.harness ∷ [])

-- the nodes with one more
pub placed_next : (xs : List NodeDraft) (i : ℕ) (x : NodeDraft) → x ≡ get_or xs i x → i < length xs → placed_nodes (take (i + 1) xs) ≡ placed_nodes (take i xs) ++ placed_node (with_name (each_once (harness_labels (take i xs))) x.harness) x ∷ []
placed_next xs i x is lt =
    let before : List NodeDraft = take i xs in
    ap (λ names. map (placed_node names) (take (i + 1) xs)) (harnesses_next xs i x is lt)
    ∙ map_next (placed_node (with_name (each_once (harness_labels before)) x.harness)) xs i x is lt
    ∙ ap (λ ns. ns ++ placed_node (with_name (each_once (harness_labels before)) x.harness) x ∷ [])
    (same_numbers (each_once (harness_labels before)) x.harness before (all_there [] (harness_labels before)))

-- there are no more harnesses than nodes
pub length-harnesses : (xs : List NodeDraft) (i : ℕ) → length (each_once (harness_labels (take i xs))) ≤ length xs
length-harnesses xs i =
    omega (arith, length-each_once (harness_labels (take i xs)), length-map (take i xs) (λ node. node.harness), length-take i xs)

pub ruleset names_added = (has_name-added)
