pub mod TallySteps
pub mod Picked
pub mod FoundBy
pub mod Shown
pub mod JudgedLists
