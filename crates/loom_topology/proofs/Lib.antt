mod NodeLists
pub mod OpenSegments
mod Kept
pub mod ShutSegments
pub mod Leads
mod Seen
mod TableCells
pub mod Sums
pub mod Bundles
pub mod Climb
pub mod Hangs
pub mod Sound
pub mod Places
pub mod LowerBound
pub mod OpenAt
pub mod Drawn
pub mod Over
pub mod Masks
pub mod Both
pub mod Composition
pub mod FirstCavity
pub mod LeastCost
pub mod Reach
pub mod Found
pub mod LeastLegal
pub mod Raised
pub mod Tied
pub mod ShortWays
pub mod CheapestSegments
pub mod Spread
mod Numbers
