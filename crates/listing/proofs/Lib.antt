pub mod Turns
pub mod Truths
pub mod Showing
pub mod Separated
pub mod Made
mod Explaining
pub mod Hexes
