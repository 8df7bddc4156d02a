pub mod Fitted
pub mod Outcomes
pub mod Links
pub mod ReservedPins
