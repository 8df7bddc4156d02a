-- Points are numbered as they are found.
use Rattle.std.proofs.Common.{ℕ, zero, suc, List, [], ◌∷◌, ◌++◌, length, ◌≡◌, ◌<◌, Bool, true, false, cond, Some, inl, inr, refl, sym, ap, ◌∙◌, subst, arith}
use Rattle.std.specs.List.{AllZip, slice_get, list_any, IsDistinct, AllByRecursion}
use Rattle.std.proofs.lemmas.Bool.{cases_Bool, cond-true, cond-false, both_ways}
use Rattle.std.proofs.lemmas.Option.{same_Some}
use Rattle.indexmap.specs.IndexSet.{insert_key}
use Rattle.loom_types.specs.declared.wire.End.{End}
use Rattle.loom_types.specs.WireTree.{joint_of}
use Rattle.loom_audit.specs.EndKeys.{key_of, is_same_key, IsLinkOf}
use Rattle.loom_audit.proofs.KeyLemmas.{same_key-true, same_key-refl}

get_pushed : (xs ys : List (ℕ × ℕ × ℕ × ℕ)) (i : ℕ) (k : ℕ × ℕ × ℕ × ℕ) → slice_get xs i ≡ Some k → slice_get (xs ++ ys) i ≡ Some k
get_pushed [] ys i k at = absurd (cc)
get_pushed (x ∷ xs) ys zero k at = at
get_pushed (x ∷ xs) ys (suc i) k at = get_pushed xs ys i k at

-- a point keeps its number when another is added
pub get_inserted : (xs : List (ℕ × ℕ × ℕ × ℕ)) (key : ℕ × ℕ × ℕ × ℕ) (i : ℕ) (k : ℕ × ℕ × ℕ × ℕ) → slice_get xs i ≡ Some k
    → slice_get (insert_key is_same_key xs key) i ≡ Some k
get_inserted xs key i k at = elim (cases_Bool (list_any (is_same_key key) xs)) [
  | inl known ↦ ap (λ (l : List (ℕ × ℕ × ℕ × ℕ)). slice_get l i) (cond-true (list_any (is_same_key key) xs) xs (xs ++ key ∷ []) known) ∙ at
  | inr new ↦
      ap (λ (l : List (ℕ × ℕ × ℕ × ℕ)). slice_get l i) (cond-false (list_any (is_same_key key) xs) xs (xs ++ key ∷ []) new)
      ∙ get_pushed xs (key ∷ []) i k at
]

pub link_kept : (xs ys : List (ℕ × ℕ × ℕ × ℕ)) → ((i : ℕ) (k : ℕ × ℕ × ℕ × ℕ) → slice_get xs i ≡ Some k → slice_get ys i ≡ Some k)
    → (ws : List (End × End)) (links : List (ℕ × ℕ)) → AllZip (IsLinkOf xs) ws links → AllZip (IsLinkOf ys) ws links
link_kept xs ys kept [] [] z = tt
link_kept xs ys kept [] (l ∷ links) z = absurd z
link_kept xs ys kept (w ∷ ws) [] z = absurd z
link_kept xs ys kept (w ∷ ws) (l ∷ links) ((one, two), z) = ((kept l.0 _ one, kept l.1 _ two), link_kept xs ys kept ws links z)

pub link_pushed : (xs : List (ℕ × ℕ × ℕ × ℕ)) (ws : List (End × End)) (links : List (ℕ × ℕ)) (w : End × End) (l : ℕ × ℕ)
    → AllZip (IsLinkOf xs) ws links → IsLinkOf xs w l → AllZip (IsLinkOf xs) (ws ++ w ∷ []) (links ++ l ∷ [])
link_pushed xs [] [] w l z is = (is, tt)
link_pushed xs [] (k ∷ links) w l z is = absurd z
link_pushed xs (v ∷ ws) [] w l z is = absurd z
link_pushed xs (v ∷ ws) (k ∷ links) w l (at, z) is = (at, link_pushed xs ws links w l z is)

-- a point that was found is the one that was looked for
pub stored_key : (xs : List (ℕ × ℕ × ℕ × ℕ)) (key : ℕ × ℕ × ℕ × ℕ) (i : ℕ) → (k : ℕ × ℕ × ℕ × ℕ) × (slice_get xs i ≡ Some k) × (is_same_key key k ≡ true)
    → slice_get xs i ≡ Some key
stored_key xs key i (k, at, same) = at ∙ ap (λ (x : ℕ × ℕ × ℕ × ℕ). Some x) (sym (same_key-true key k same))

none_equal : (x : ℕ × ℕ × ℕ × ℕ) (xs : List (ℕ × ℕ × ℕ × ℕ)) (i : ℕ) → AllByRecursion (λ y. is_same_key x y ≡ false) xs → slice_get xs i ≡ Some x → ⊥
none_equal x [] i none at = absurd (cc)
none_equal x (y ∷ xs) zero none at =
    both_ways (is_same_key x y) none.0 (ap (is_same_key x) (same_Some y x at) ∙ same_key-refl x)
none_equal x (y ∷ xs) (suc i) none at = none_equal x xs i none.1 at

pub numbered_once : (xs : List (ℕ × ℕ × ℕ × ℕ)) → IsDistinct is_same_key xs → (m n : ℕ) (k : ℕ × ℕ × ℕ × ℕ) → slice_get xs m ≡ Some k → slice_get xs n ≡ Some k → m ≡ n
unfolding IsDistinct
numbered_once [] distinct m n k at to = absurd (cc)
numbered_once (x ∷ xs) distinct zero zero k at to = refl
numbered_once (x ∷ xs) distinct zero (suc n) k at to =
    absurd (none_equal x xs n distinct.0 (to ∙ sym at))
numbered_once (x ∷ xs) distinct (suc m) zero k at to =
    absurd (none_equal x xs m distinct.0 (at ∙ sym to))
numbered_once (x ∷ xs) distinct (suc m) (suc n) k at to = ap suc (numbered_once xs distinct.1 m n k at to)
