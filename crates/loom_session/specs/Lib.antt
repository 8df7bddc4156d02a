pub mod Forgets
pub mod Session
