-- Points by numbers, how many ends lie at each, and what so many ends there cost.
use Rattle.std.specs.Prelude.{ℕ, List, ◌≡◌, ◌-◌, ◌*◌, ◌==◌, unwrap_or, count_by, if◌then◌else◌}
use Rattle.std.specs.HashMap.{HashMap, get}
use Rattle.std.specs.declared.hash.FoldHasher.{FoldHasher}
use Rattle.std.specs.declared.hash.BuildHasherDefault.{BuildHasherDefault}
use Rattle.loom_topology.specs.Topology.{TopologyView, branch_at, price_at}
use Rattle.loom_types.specs.WireCost.{Point, CavityPoint, SplicePoint, PinPoint, is_same_point}
use Rattle.loom_audit.specs.EndKeys.{is_same_key}

-- the kind of a point, and up to two numbers
abbrev pub key_of_point : Point → ℕ × ℕ × ℕ × ℕ
key_of_point (CavityPoint cavity) = (0, cavity, 0, 0)
key_of_point (SplicePoint node ordinal) = (1, node, ordinal, 0)
key_of_point (PinPoint coupler pin) = (2, coupler, pin, 0)

-- how many ends a table counts at a point
abbrev pub ends_at : HashMap (ℕ × ℕ × ℕ × ℕ) ℕ (BuildHasherDefault FoldHasher) → Point → ℕ
ends_at counts p = unwrap_or (get is_same_key counts (key_of_point p)) 0

-- the table counts the points of a list
abbrev pub ArePointCounts : List Point → HashMap (ℕ × ℕ × ℕ × ℕ) ℕ (BuildHasherDefault FoldHasher) → Type 0
ArePointCounts points counts = (p : Point) → ends_at counts p ≡ count_by (is_same_point p) points

-- what a point costs at which so many ends lie
abbrev pub cost_with : TopologyView → ℕ → Point → ℕ
cost_with topology ends (CavityPoint cavity) = 0
cost_with topology ends (SplicePoint node ordinal) = (ends - 2) * branch_at topology node
cost_with topology ends (PinPoint coupler pin) = if ends == 0 then 0 else price_at topology coupler
