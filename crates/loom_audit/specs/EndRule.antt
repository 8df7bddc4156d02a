-- How many wires end where, in a tree.
use Rattle.std.specs.Prelude.{ℕ, List, ◌≡◌, ◌≤◌, All, count_by}
use Rattle.std.specs.List.{Contains}
use Rattle.loom_types.specs.declared.wire.End.{End}
use Rattle.loom_types.specs.declared.wire.End.TheVariants.{Cavity, Splice, Pin}
use Rattle.loom_types.specs.WireTree.{is_same_end, joint_of, HasEnd, HasNoCycle, Reaches}

-- a cavity is one of these, a splice has at least three ends, and a pin one at side 1 and one at side 2
abbrev pub IsEndRight : (End → ℕ) → List ℕ → End → Type 0
IsEndRight count cavities (Cavity cavity) = Contains cavities cavity.0
IsEndRight count cavities (Splice node ordinal) = 3 ≤ count (Splice node ordinal)
IsEndRight count cavities (Pin coupler pin side) = (count (Pin coupler pin 1) ≡ 1) × (count (Pin coupler pin 2) ≡ 1)

-- each end is, and each of the cavities has one end
pub record AreEndsRight (cavities : List ℕ) (ends : List End) : Type 0 where
  pub once : All (λ c. count_by (is_same_end (Cavity (record { 0 = c }))) ends ≡ 1) cavities
  pub right : All (IsEndRight (λ e. count_by (is_same_end e) ends) cavities) ends

-- wires are connected, without a cycle
pub record IsOnePiece (ws : List (End × End)) : Type 0 where
  pub connected : (e f : End) → HasEnd ws e → HasEnd ws f → Reaches ws (joint_of e) (joint_of f)
  pub no_cycle : HasNoCycle ws
