pub mod FirstStop
pub mod Laws
pub mod Pins
pub mod PlanOf
pub mod SlotUsers
pub mod Stages
pub mod StopsLaw
pub mod Work
