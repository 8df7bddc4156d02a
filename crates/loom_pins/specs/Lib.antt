pub mod FirstFit
pub mod Holders
pub mod Laws
