pub mod Numbers
pub mod Flagless
pub mod Levels
pub mod Taken
pub mod Named
