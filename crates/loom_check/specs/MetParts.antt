-- How the sets that a wire meets, and the wires of a set, are put together.
use Rattle.std.specs.Prelude.{ℕ, List, [], ◌∷◌, ◌++◌, Bool, Some, ◌≡◌, ◌<◌, ◌==◌, ◌↔◌, All, AllPairs, Contains, length, nat_eq, slice_get, slice_index_or, if◌then◌else◌}
use Rattle.std.specs.List.{list_any}
use Rattle.std.specs.Option.{unwrap_or}
use Rattle.std.specs.HashMap.{HashMap, get}
use Rattle.std.specs.declared.hash.FoldHasher.{FoldHasher}
use Rattle.std.specs.declared.hash.BuildHasherDefault.{BuildHasherDefault}
use Rattle.loom_types.specs.declared.plan.Plan.{Plan}
use Rattle.loom_types.specs.declared.plan.SetLine.{SetLine}
use Rattle.loom_types.specs.declared.wire.Wire.{Wire}
use Rattle.loom_audit.specs.Grouping.{is_same_pair}
use Rattle.loom_check.specs.MetSets.{AreMet, MetTable}

-- the positions, rising, of the lines with a property
pub record ArePlaces {X : Type 0} (P : X → Type 0) (lines : List X) (positions : List ℕ) : Type 0 where
  pub rising : AllPairs (λ one other. one < other) positions
  pub within : All (λ at. at < length lines) positions
  pub each : (at : ℕ) (line : X) → slice_get lines at ≡ Some line → Contains positions at ↔ P line

-- the set is one of the net
abbrev pub IsOfNet : ℕ → SetLine → Type 0
IsOfNet net set = set.net.0 ≡ net

-- by net, positions of sets
abbrev pub NetTable : Type 0
NetTable = HashMap ℕ (List ℕ) (BuildHasherDefault FoldHasher)

-- those of a net; none where the table has no such net
abbrev pub positions_in : NetTable → ℕ → List ℕ
positions_in table net = unwrap_or (get nat_eq table net) []

-- with one more position, for its own net
abbrev pub with_position : ℕ → ℕ → List ℕ → ℕ → List ℕ
with_position net position positions other = if net == other then positions ++ position ∷ [] else positions

-- the table has the positions of each net's sets
abbrev pub KnowsNets : List SetLine → NetTable → Type 0
KnowsNets sets table = (net : ℕ) → ArePlaces (IsOfNet net) sets (positions_in table net)

-- whatever the table has for a wire is right
abbrev pub KnowsOnlyMet : Plan → MetTable → Type 0
KnowsOnlyMet plan table =
    (w : Wire) (positions : List ℕ) → get is_same_pair table (w.net.0, w.row) ≡ Some positions → AreMet plan w positions

-- the position stands in the list
abbrev pub has_position : List ℕ → ℕ → Bool
has_position positions at = list_any (nat_eq at) positions

-- each list at one of the places has got a position at its end
abbrev pub HaveGot : List (List ℕ) → List (List ℕ) → List ℕ → ℕ → Type 0
HaveGot old new places position =
    (at : ℕ) → at < length old → slice_index_or new at []
    ≡ (if has_position places at then slice_index_or old at [] ++ position ∷ [] else slice_index_or old at [])

-- the sets that the table has for a wire
abbrev pub sets_of_wire : MetTable → Wire → List ℕ
sets_of_wire table w = unwrap_or (get is_same_pair table (w.net.0, w.row)) []

-- whether the table has a set for a wire
abbrev pub is_member : MetTable → ℕ → Wire → Bool
is_member table set w = has_position (sets_of_wire table w) set
