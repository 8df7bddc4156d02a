use Rattle.std.specs.Prelude.{ℕ, List, ◌≡◌}
use Rattle.loom_base.specs.declared.positions.NetNo.{NetNo}
use Rattle.loom_topology.specs.Topology.{TopologyView}
use Rattle.loom_project.specs.declared.draft.Draft.{Draft}
use Rattle.loom_project.specs.Project.{net_topology, cavities_of, class_topology}
use Rattle.loom_layout.specs.declared.stop.LayoutStop.TheVariants as layout
use Rattle.loom_layout.specs.Stop.{StopIsDue}
use Rattle.loom_laid.specs.declared.class_topology.ClassTopology.{ClassTopology}
use Rattle.loom_laid.specs.declared.stop.LaidStop.{LaidStop}
use Rattle.loom_laid.specs.declared.stop.LaidStop.TheVariants.{TooManyCells, Unreachable, TooManySteps, NoMemory}
use Rattle.loom_laid.specs.LaidStops.{IsFirstUnreached}

-- the topology is that of the class
abbrev pub IsOfClass : Draft → ClassTopology → Type 0
IsOfClass draft made = made.topology ≡ class_topology draft made.class

-- why a set of the net has no layout over the topology
abbrev pub IsSetStop : TopologyView → List ℕ → NetNo → ℕ → LaidStop → Type 0
IsSetStop topology terminals net mask TooManyCells = ⊥
IsSetStop topology terminals net mask (Unreachable of cavity reached) =
    (of ≡ net) × StopIsDue topology terminals mask (layout.Unreachable cavity reached)
IsSetStop topology terminals net mask TooManySteps = ⊥
IsSetStop topology terminals net mask NoMemory = Unit {0}

-- why the live sets have no layouts, but for the limits: the first one that isn't reached
abbrev pub IsReachStop : Draft → LaidStop → Type 0
IsReachStop draft TooManyCells = ⊥
IsReachStop draft (Unreachable net cavity reached) =
    (mask : ℕ) × IsFirstUnreached draft net.0 mask
    × StopIsDue (net_topology draft net.0) (cavities_of draft net.0) mask (layout.Unreachable cavity reached)
IsReachStop draft TooManySteps = ⊥
IsReachStop draft NoMemory = Unit {0}
