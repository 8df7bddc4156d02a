-- Loops that work out conditions, an element of a list after another.
use Rattle.std.proofs.Common.{◌≡◌, ℕ, ◌+◌, ◌<◌, ◌≤◌, List, [], ◌∷◌, ◌++◌, length, get_or, take, drop, sym, ap, subst, ◌∙◌, Ok, Err, append-nil}
use Rattle.std.specs.List.{flat_map}
use Rattle.std.proofs.lemmas.List.{take_more, take_all, take-append-drop}
use Rattle.std.proofs.lemmas.List.Concat.{flat_map-append}
use Rattle.loom_rows.specs.declared.stop.RowsStop.{RowsStop}
use Rattle.loom_rows.specs.declared.stop.RowsStop.TheVariants.{NoMemory}
use Rattle.loom_rows.specs.Condition.{Meaning}
use Rattle.loom_rows.specs.Table.{Table}
use Rattle.loom_rows.specs.Leftovers.{Works}
use Rattle.loom_rows.proofs.Progress.{Progress, progress-step, progress-done, progress-stop, progress-no_memory}

-- an element's part stands between those of the elements before it and of those behind it
module _ {X : Type 0} (f : X → List Meaning) (xs : List X) (k : ℕ) (x : X) (lt : k < length xs) (at : x ≡ get_or xs k x) where
  pub parts-more : flat_map f (take (k + 1) xs) ≡ flat_map f (take k xs) ++ f x
  parts-more =
      ap (flat_map f) (take_more xs k x lt) ∙ flat_map-append f (take k xs) (get_or xs k x ∷ [])
      ∙ ap (λ l. flat_map f (take k xs) ++ l) (append-nil (f (get_or xs k x)) ∙ ap f (sym at))

  pub parts-whole : flat_map f xs ≡ (flat_map f (take k xs) ++ f x) ++ flat_map f (drop (k + 1) xs)
  parts-whole =
      ap (flat_map f) (sym (take-append-drop (k + 1) xs)) ∙ flat_map-append f (take (k + 1) xs) (drop (k + 1) xs)
      ∙ ap (λ l. l ++ flat_map f (drop (k + 1) xs)) parts-more

  pub step-next : {A : Type 0} (old t u : Table) (y : A) → Progress (flat_map f (take k xs)) old t → Works (f x) t u (Ok y) → Progress (flat_map f (take (k + 1) xs)) old u
  step-next old t u y p w = subst (λ (l : List Meaning). Progress l old u) (sym parts-more) (progress-step (flat_map f (take k xs)) (f x) old t u y p w)

  pub step-stop : {A B : Type 0} (old t u : Table) (e : RowsStop) → Progress (flat_map f (take k xs)) old t → Works {A = A} (f x) t u (Err e) → Works {A = B} (flat_map f xs) old u (Err e)
  step-stop {A} {B} old t u e p w =
      subst (λ (l : List Meaning). Works {A = B} l old u (Err e)) (sym parts-whole)
      (progress-stop {A = A} {B = B} (flat_map f (take k xs)) (f x) (flat_map f (drop (k + 1) xs)) old t u e p w)

  pub step-no_memory : {A B : Type 0} (old t u : Table) (y : A) → Progress (flat_map f (take k xs)) old t → Works (f x) t u (Ok y) → Works {A = B} (flat_map f xs) old u (Err NoMemory)
  step-no_memory {A} {B} old t u y p w =
      subst (λ (l : List Meaning). Works {A = B} l old u (Err NoMemory)) (sym parts-whole)
      (progress-no_memory {A = B} (flat_map f (take k xs) ++ f x) (flat_map f (drop (k + 1) xs)) old u (progress-step (flat_map f (take k xs)) (f x) old t u y p w))

module _ {X : Type 0} (f : X → List Meaning) (xs : List X) (k : ℕ) (past : length xs ≤ k) where
  pub step-done : {A : Type 0} (old t : Table) (y : A) → Progress (flat_map f (take k xs)) old t → Works (flat_map f xs) old t (Ok y)
  step-done old t y p = progress-done (flat_map f xs) old t y (subst (λ (l : List X). Progress (flat_map f l) old t) (take_all k xs past) p)
