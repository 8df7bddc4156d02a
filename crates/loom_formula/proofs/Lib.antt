pub mod Choosing
pub mod Counting
pub mod Folds
pub mod NameLemmas
pub mod Progress
pub mod Validity
pub mod Walks
