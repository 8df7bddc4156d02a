pub mod Findings
pub mod Judged
pub mod Tallies
pub mod Watched
