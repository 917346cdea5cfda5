pub mod Lines
pub mod Gathered
pub mod States
