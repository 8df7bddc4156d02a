pub mod DoorLemmas
pub mod NameLemmas
