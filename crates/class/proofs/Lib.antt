pub mod Lawful
pub mod Longer
