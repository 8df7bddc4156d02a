-- The printed sets of which a wire is one, by position.
use Rattle.std.specs.Prelude.{ℕ, List, Some, ◌≡◌, ◌<◌, ◌↔◌, All, AllPairs, Contains, length, slice_get}
use Rattle.std.specs.HashMap.{HashMap, get}
use Rattle.std.specs.declared.hash.FoldHasher.{FoldHasher}
use Rattle.std.specs.declared.hash.BuildHasherDefault.{BuildHasherDefault}
use Rattle.loom_types.specs.declared.plan.Plan.{Plan}
use Rattle.loom_types.specs.declared.plan.SetLine.{SetLine}
use Rattle.loom_types.specs.declared.wire.Wire.{Wire}
use Rattle.loom_active.specs.SetWires.{IsWireOf}
use Rattle.loom_audit.specs.Grouping.{is_same_pair}

-- the positions, rising, of the sets of which a wire is one
pub record AreMet (plan : Plan) (w : Wire) (positions : List ℕ) : Type 0 where
  pub rising : AllPairs (λ one other. one < other) positions
  pub within : All (λ at. at < length plan.sets) positions
  pub each : (at : ℕ) (set : SetLine) → slice_get plan.sets at ≡ Some set → Contains positions at ↔ IsWireOf plan set w

-- by net and number of a condition, positions of sets
abbrev pub MetTable : Type 0
MetTable = HashMap (ℕ × ℕ) (List ℕ) (BuildHasherDefault FoldHasher)

-- the table has those of a wire
pub record KnowsMet (plan : Plan) (table : MetTable) (w : Wire) : Type 0 where
  pub positions : List ℕ
  pub found : get is_same_pair table (w.net.0, w.row) ≡ Some positions
  pub met : AreMet plan w positions

-- the table has those of the first n wires
abbrev pub KnowsMetBefore : Plan → MetTable → ℕ → Type 0
KnowsMetBefore plan table n = (i : ℕ) (w : Wire) → i < n → slice_get plan.wires i ≡ Some w → KnowsMet plan table w
