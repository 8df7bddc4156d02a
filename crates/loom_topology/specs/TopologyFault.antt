use Rattle.std.specs.Prelude.{ℕ, Result, Ok, Err, ◌≡◌, length, ◌==◌, if◌then◌else◌}
use Rattle.loom_base.specs.declared.positions.SegmentNo.{SegmentNo}
use Rattle.loom_topology.specs.declared.kind.Kind.{Kind}
use Rattle.loom_topology.specs.declared.fault.TopologyFault.{TopologyFault}
use Rattle.loom_topology.specs.declared.fault.TopologyFault.TheVariants.{EndsEqual, BorderCrossed, NoBorder, NoMemory}
use Rattle.loom_topology.specs.Topology.{TopologyView, harness_at, is_coupler}

-- a run lies inside one harness, a coupler joins two; what keeps the rule has the number n
abbrev pub inside_borders : Kind → ℕ → ℕ → ℕ → Result ℕ TopologyFault
inside_borders kind n here there =
    if is_coupler kind
    then (if here == there then Err NoBorder else Ok n)
    else (if here == there then Ok n else Err BorderCrossed)

-- the number of a new segment, or the first rule that it breaks
abbrev pub number_of_new : TopologyView → ℕ → ℕ → Kind → Result ℕ TopologyFault
number_of_new topology from to kind =
    if from == to then Err EndsEqual
    else inside_borders kind (length topology.segments) (harness_at topology from) (harness_at topology to)

-- want of memory may come at any time; every other fault is the one that is due
abbrev pub IsDue : TopologyFault → Result ℕ TopologyFault → Type 0
IsDue NoMemory due = Unit {0}
IsDue EndsEqual due = due ≡ Err EndsEqual
IsDue BorderCrossed due = due ≡ Err BorderCrossed
IsDue NoBorder due = due ≡ Err NoBorder

-- the answer is the one that is due, unless memory ran out
abbrev pub Gives : Result SegmentNo TopologyFault → Result ℕ TopologyFault → Type 0
Gives (Ok segment) due = due ≡ Ok segment.0
Gives (Err fault) due = IsDue fault due
