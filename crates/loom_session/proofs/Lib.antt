pub mod SameGround
pub mod Stays
