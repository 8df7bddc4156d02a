pub mod Growth
pub mod Kept
pub mod KeptInside
pub mod Keys
pub mod LaidSets
pub mod LaidStops
pub mod SetStops
