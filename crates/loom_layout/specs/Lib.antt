pub mod Layout
pub mod Stop
pub mod Laws
pub mod Rule
pub mod Walk
