pub mod Again
pub mod Floats
pub mod Lists
pub mod Read
pub mod Views
