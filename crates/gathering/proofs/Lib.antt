pub mod Bounds
pub mod Takes
pub mod Turns
