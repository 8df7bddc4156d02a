pub mod FirstBreak
pub mod Lowest
pub mod Laws
pub mod Ways
