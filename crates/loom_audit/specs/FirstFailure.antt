-- What holds of every line of a list, and the first line of which it doesn't.
use Rattle.std.specs.Prelude.{ℕ, List, Some, ◌≡◌, ◌<◌, length, slice_get}

-- every element has a property, which may speak of its position
abbrev pub Each : {A : Type 0} → (ℕ → A → Type 0) → List A → Type 0
Each {A} P xs = (i : ℕ) (x : A) → slice_get xs i ≡ Some x → P i x

-- so have the first n
abbrev pub EachBefore : {A : Type 0} → (ℕ → A → Type 0) → List A → ℕ → Type 0
EachBefore {A} P xs n = (i : ℕ) (x : A) → i < n → slice_get xs i ≡ Some x → P i x

-- the first element without the property stands at this position
pub record IsFirstWithout {A : Type 0} (P : ℕ → A → Type 0) (xs : List A) (at : ℕ) : Type 0 where
  pub element : A
  pub stands : slice_get xs at ≡ Some element
  pub fails : P at element → ⊥
  pub before : EachBefore P xs at

-- the first n lines of two lists agree
abbrev pub AgreeBefore : {A B : Type 0} → (A → B → Type 0) → List A → List B → ℕ → Type 0
AgreeBefore {A} {B} Same stated printed n =
    (i : ℕ) (s : A) (p : B) → i < n → slice_get stated i ≡ Some s → slice_get printed i ≡ Some p → Same s p

-- printed lines are the stated ones: there are as many, and they agree one by one
pub record Agree {A B : Type 0} (Same : A → B → Type 0) (stated : List A) (printed : List B) : Type 0 where
  pub counted : length stated ≡ length printed
  pub lines : AgreeBefore Same stated printed (length printed)

-- how two lists differ at a position: both have a line there, and these don't agree; or one list ends there, and the other goes on
pub data Differ {A B : Type 0} (Same : A → B → Type 0) (stated : List A) (printed : List B) (at : ℕ) : Type 0 where
  apart : (s : A) (p : B) → slice_get stated at ≡ Some s → slice_get printed at ≡ Some p → (Same s p → ⊥) → Differ Same stated printed at
  missing : at ≡ length printed → at < length stated → Differ Same stated printed at
  spare : at ≡ length stated → at < length printed → Differ Same stated printed at

-- the first difference is there
pub record DifferFirst {A B : Type 0} (Same : A → B → Type 0) (stated : List A) (printed : List B) (at : ℕ) : Type 0 where
  pub before : AgreeBefore Same stated printed at
  pub there : Differ Same stated printed at
