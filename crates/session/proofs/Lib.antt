pub mod Writings
pub mod Lengths
pub mod Bounds
pub mod Takings
pub mod Entered
pub mod Lawfulness
pub mod Oneness
pub mod Underway
