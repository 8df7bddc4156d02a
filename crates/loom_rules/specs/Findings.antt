use Rattle.std.specs.Prelude.{ℕ, List, Bool, Some, false, ◌≡◌, ◌↔◌, ◌<◌, ◌==◌, ◌&&◌, ◌||◌, slice_get, Contains, count_by}
use Rattle.std.specs.declared.cmp.Ordering.{Ordering}
use Rattle.std.specs.Ordering.{nat_cmp, ordering_then}
use Rattle.std.specs.List.{list_any}
use Rattle.std.specs.List.Sorted.{IsStrictlySortedBy}
use Rattle.loom_types.specs.declared.wire.End.{End}
use Rattle.loom_types.specs.declared.wire.End.TheVariants.{Cavity, Splice, Pin}
use Rattle.loom_types.specs.declared.wire.Wire.{Wire}
use Rattle.loom_rules.specs.declared.finding.Finding.{Finding}

-- the order of findings: by first, then second, then third
abbrev pub finding_cmp : Finding → Finding → Ordering
finding_cmp f g =
    ordering_then (nat_cmp f.first g.first) (ordering_then (nat_cmp f.second g.second) (nat_cmp f.third g.third))

-- the segment stands in the wire's route
abbrev pub has_segment : ℕ → Wire → Bool
has_segment segment w = list_any (λ s. s.0 == segment) w.route

-- the end is that splice of its net
abbrev pub is_splice : ℕ → ℕ → End → Bool
is_splice node ordinal (Cavity cavity) = false
is_splice node ordinal (Splice at number) = at.0 == node && number == ordinal
is_splice node ordinal (Pin coupler pin side) = false

-- the wire ends at that splice of that net
abbrev pub ends_at_splice : ℕ → ℕ → ℕ → Wire → Bool
ends_at_splice net node ordinal w = w.net.0 == net && (is_splice node ordinal w.from || is_splice node ordinal w.to)

-- the finding names, by its position, a wire that is longer than the limit
pub record IsLongWire (limit : ℕ) (wires : List Wire) (found : Finding) : Type 0 where
  pub wire : Wire
  pub at : slice_get wires found.first ≡ Some wire
  pub longer : limit < wire.length
  pub second : found.second ≡ 0
  pub third : found.third ≡ 0

-- the finding names a segment that stands in the routes of more wires than the limit, and how many
pub record IsCrowdedSegment (limit : ℕ) (wires : List Wire) (found : Finding) : Type 0 where
  pub number : found.second ≡ count_by (has_segment found.first) wires
  pub more : limit < found.second
  pub third : found.third ≡ 0

-- the finding names a splice, by net, node and ordinal, at which more wires end than the limit
abbrev pub IsBusySplice : ℕ → List Wire → Finding → Type 0
IsBusySplice limit wires found = limit < count_by (ends_at_splice found.first found.second found.third) wires

-- what a rule of that kind finds: 1 long wires, 2 crowded segments, 3 busy splices
pub data IsFound (limit : ℕ) (wires : List Wire) (found : Finding) : ℕ → Type 0 where
  long : IsLongWire limit wires found → IsFound limit wires found 1
  crowded : IsCrowdedSegment limit wires found → IsFound limit wires found 2
  busy : IsBusySplice limit wires found → IsFound limit wires found 3

-- exactly what a rule of that kind and limit finds over the wires, in rising order
pub record AreFindings (kind limit : ℕ) (wires : List Wire) (findings : List Finding) : Type 0 where
  pub rising : IsStrictlySortedBy finding_cmp findings
  pub exactly : (found : Finding) → Contains findings found ↔ IsFound limit wires found kind
