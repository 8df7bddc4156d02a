pub mod DegreeLemmas
pub mod FirstLineLemmas
pub mod GroupSteps
pub mod HarnessOrder
pub mod HungSteps
pub mod LaidLemmas
pub mod LegSteps
pub mod PlaceSteps
pub mod SpliceSteps
pub mod UniqueWires
pub mod WalkSteps
pub mod Firsts
pub mod RisingWires
pub mod ChosenCavities
pub mod PlacedSteps
pub mod Differences
pub mod SlotKeys
pub mod SlotSteps
pub mod NetTopologies
pub mod SlotLists
pub mod BareWires
pub mod SetParts
pub mod PassableSteps
pub mod LaidOut
pub mod LaidParts
pub mod CostSums
pub mod WiresOfLayout
mod RowSteps
pub mod Forests
pub mod KeyLemmas
pub mod TreeClasses
pub mod LinkSteps
pub mod TreeTests
pub mod SetWireLists
pub mod PointCosts
pub mod PointKeys
pub mod WireCosts
pub mod SetTables
pub mod CostsAgree
mod RunSteps
mod Walks
mod EndSteps
mod FirstFailures
