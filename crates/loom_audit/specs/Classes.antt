-- Points by number, joined by links, and the parents by which a computation keeps their classes.
use Rattle.std.specs.Prelude.{ℕ, List, [], ◌∷◌, ◌≡◌, ◌≢◌, ◌<◌, ◌≤◌, ◌==◌, min, max, length, slice_index, if◌then◌else◌}
use Rattle.std.specs.List.{Contains}

-- the class of a point once two classes are one: the lesser of the two stands for both
abbrev pub merged : ℕ → ℕ → ℕ → ℕ
merged a b x = if x == max a b then min a b else x

-- the class of a point once links are laid, from the last to the first; before that each point is a class by itself
abbrev pub class_of : List (ℕ × ℕ) → ℕ → ℕ
class_of [] x = x
class_of (link ∷ links) x = merged (class_of links link.0) (class_of links link.1) (class_of links x)

-- each link joins two classes that those after it don't join
abbrev pub JoinsApart : List (ℕ × ℕ) → Type 0
JoinsApart [] = Unit {0}
JoinsApart (link ∷ links) = (class_of links link.0 ≢ class_of links link.1) × JoinsApart links

-- the links start in one class
abbrev pub AreOneClass : (ℕ → ℕ) → List (ℕ × ℕ) → Type 0
AreOneClass classes links = (l k : ℕ × ℕ) → Contains links l → Contains links k → classes l.0 ≡ classes k.0

-- the link's points are among the first so many
abbrev pub IsLinkBelow : ℕ → ℕ × ℕ → Type 0
IsLinkBelow count link = (link.0 < count) × (link.1 < count)

-- no point's parent comes after it
abbrev pub AreParents : List ℕ → Type 0
AreParents parents = (x : ℕ) → slice_index parents x ≤ x

-- each point is of its parent's class, and one that is its own parent stands for its class
pub record IsForestOf (classes : ℕ → ℕ) (parents : List ℕ) : Type 0 where
  pub up : (x : ℕ) → x < length parents → classes (slice_index parents x) ≡ classes x
  pub root : (x : ℕ) → x < length parents → slice_index parents x ≡ x → classes x ≡ x
