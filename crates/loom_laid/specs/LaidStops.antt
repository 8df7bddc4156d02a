use Rattle.std.specs.Prelude.{ℕ, List, ◌<◌, ◌≤◌}
use Rattle.loom_topology.specs.Legal.{chosen}
use Rattle.loom_topology.specs.Reach.{AreReached}
use Rattle.loom_project.specs.declared.draft.Draft.{Draft}
use Rattle.loom_project.specs.Project.{net_topology, cavities_of}
use Rattle.loom_types.specs.declared.plan.TableLine.{TableLine}
use Rattle.loom_types.specs.SetMask.{stem_node}
use Rattle.loom_layout.specs.declared.stop.LayoutStop.TheVariants as layout
use Rattle.loom_layout.specs.Stop.{StopIsDue}
use Rattle.loom_active.specs.declared.live.LiveSet.{LiveSet}
use Rattle.loom_active.specs.LiveSets.{IsLiveSet, IsListedBefore}
use Rattle.loom_laid.specs.declared.laid_set.LaidSet.{LaidSet}
use Rattle.loom_laid.specs.declared.stop.LaidStop.{LaidStop}
use Rattle.loom_laid.specs.declared.stop.LaidStop.TheVariants.{TooManyCells, Unreachable, TooManySteps, NoMemory}
use Rattle.loom_laid.specs.LaidSets.{AreLiveNets, cells_of, AreTables, AreLaid, steps_of}

-- the tables of the nets that have a live set have at most 2,097,152 cells
pub record FitCells (draft : Draft) : Type 0 where
  pub nets : List ℕ
  pub are_nets : AreLiveNets draft nets
  pub few : cells_of draft nets ≤ 2097152

-- they have more
pub record PassCells (draft : Draft) : Type 0 where
  pub nets : List ℕ
  pub are_nets : AreLiveNets draft nets
  pub many : 2097152 < cells_of draft nets

-- each cavity of a set is reached from the first one's node, over segments open to the net
abbrev pub IsReached : Draft → ℕ → ℕ → Type 0
IsReached draft net mask =
    AreReached (net_topology draft net) (chosen (cavities_of draft net) mask)
    (stem_node (net_topology draft net) (cavities_of draft net) mask)

-- those of each live set are
abbrev pub AreAllReached : Draft → Type 0
AreAllReached draft = (net mask : ℕ) → IsLiveSet draft net mask → IsReached draft net mask

-- each live set is reached, and the layouts of all together have at most 1,000,000 steps
pub record FitSteps (draft : Draft) (sets : List LiveSet) : Type 0 where
  pub reached : AreAllReached draft
  pub tables : List TableLine
  pub are_tables : AreTables draft tables
  pub laid : List LaidSet
  pub are_laid : AreLaid draft tables sets laid
  pub few : steps_of laid ≤ 1000000

-- each live set is reached, and the layouts have more
pub record PassSteps (draft : Draft) (sets : List LiveSet) : Type 0 where
  pub reached : AreAllReached draft
  pub tables : List TableLine
  pub are_tables : AreTables draft tables
  pub laid : List LaidSet
  pub are_laid : AreLaid draft tables sets laid
  pub many : 1000000 < steps_of laid

-- the live set is the first with a cavity that isn't reached
pub record IsFirstUnreached (draft : Draft) (net mask : ℕ) : Type 0 where
  pub live : IsLiveSet draft net mask
  pub earlier : (n m : ℕ) → IsLiveSet draft n m → IsListedBefore n m net mask → IsReached draft n m

-- the layouts of live sets stop so, at the first of these: too many cells; the first live set with a cavity that isn't reached, which is
-- its first such cavity, and what is reached; too many steps. Memory may run out at any time
abbrev pub IsLaidStop : Draft → List LiveSet → LaidStop → Type 0
IsLaidStop draft sets TooManyCells = PassCells draft
IsLaidStop draft sets (Unreachable net cavity reached) =
    FitCells draft
    × ((mask : ℕ) × IsFirstUnreached draft net.0 mask
    × StopIsDue (net_topology draft net.0) (cavities_of draft net.0) mask (layout.Unreachable cavity reached))
IsLaidStop draft sets TooManySteps = FitCells draft × PassSteps draft sets
IsLaidStop draft sets NoMemory = Unit {0}
