pub mod SetMasks
mod WorkedLayouts
pub mod Tallies
pub mod CutWeights
pub mod EndTests
pub mod Growth
pub mod PointSums
pub mod CutGrowth
pub mod TreeLegs
pub mod TreeNames
pub mod TreeForms
pub mod TreeCosts
pub mod CarriedWires
pub mod TreeRoutes
pub mod TreePins
pub mod LayoutLaws
