pub mod Moves
pub mod NumbersBack
pub mod TakenBack
mod TerminalLemmas
pub mod Walks
pub mod HistoryLemmas
