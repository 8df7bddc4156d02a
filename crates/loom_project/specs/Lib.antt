pub mod Draft
pub mod Sound
pub mod Project
pub mod Classes
pub mod Numbers
pub mod ProjectInside
