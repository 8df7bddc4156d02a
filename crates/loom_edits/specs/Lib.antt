pub mod Places
pub mod Uses
pub mod Edits
pub mod Parts
pub mod Numbers
