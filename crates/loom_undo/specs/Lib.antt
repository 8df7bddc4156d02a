pub mod Inverse
pub mod Changes
pub mod HistoryInside
pub mod Numbers
