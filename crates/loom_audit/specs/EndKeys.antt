-- Ends by numbers, how often each stands in a list, and points by number.
use Rattle.std.specs.Prelude.{ℕ, List, Bool, Some, ◌≡◌, ◌<◌, ◌≤◌, ◌==◌, ◌&&◌, unwrap_or, count_by, length, slice_get, if◌then◌else◌}
use Rattle.std.specs.List.{AllZip, Contains}
use Rattle.std.specs.HashMap.{HashMap, get}
use Rattle.std.specs.declared.hash.FoldHasher.{FoldHasher}
use Rattle.std.specs.declared.hash.BuildHasherDefault.{BuildHasherDefault}
use Rattle.loom_types.specs.declared.wire.End.{End}
use Rattle.loom_types.specs.declared.wire.End.TheVariants.{Cavity, Splice, Pin}
use Rattle.loom_types.specs.WireTree.{is_same_end, joint_of}

-- the kind of an end, and up to three numbers
abbrev pub EndKey : Type 0
EndKey = ℕ × ℕ × ℕ × ℕ

abbrev pub key_of : End → ℕ × ℕ × ℕ × ℕ
key_of (Cavity cavity) = (0, cavity.0, 0, 0)
key_of (Splice node ordinal) = (1, node.0, ordinal, 0)
key_of (Pin coupler pin side) = (2, coupler.0, pin, side)

abbrev pub is_same_key : ℕ × ℕ × ℕ × ℕ → ℕ × ℕ × ℕ × ℕ → Bool
is_same_key x y = ((x.0 == y.0 && x.1 == y.1) && x.2 == y.2) && x.3 == y.3

-- tables of counts
abbrev pub Counts : Type 0
Counts = HashMap (ℕ × ℕ × ℕ × ℕ) ℕ (BuildHasherDefault FoldHasher)

-- how often a table counts an end
abbrev pub count_in : HashMap (ℕ × ℕ × ℕ × ℕ) ℕ (BuildHasherDefault FoldHasher) → End → ℕ
count_in counts e = unwrap_or (get is_same_key counts (key_of e)) 0

-- the table counts the ends of a list
abbrev pub AreCounts : List End → HashMap (ℕ × ℕ × ℕ × ℕ) ℕ (BuildHasherDefault FoldHasher) → Type 0
AreCounts ends counts = (e : End) → count_in counts e ≡ count_by (is_same_end e) ends

-- a link leads between the numbers of the points at which the wire's ends lie
abbrev pub IsLinkOf : List (ℕ × ℕ × ℕ × ℕ) → End × End → ℕ × ℕ → Type 0
IsLinkOf points w link = (slice_get points link.0 ≡ Some (key_of (joint_of w.0))) × (slice_get points link.1 ≡ Some (key_of (joint_of w.1)))

-- wires as links between points by number, where each point has one number
pub record AreLinksOf (ws : List (End × End)) (links : List (ℕ × ℕ)) (count : ℕ) : Type 0 where
  pub points : List (ℕ × ℕ × ℕ × ℕ)
  pub counted : length points ≡ count
  pub once : (m n : ℕ) (p : ℕ × ℕ × ℕ × ℕ) → slice_get points m ≡ Some p → slice_get points n ≡ Some p → m ≡ n
  pub each : AllZip (IsLinkOf points) ws links
