pub mod Steps
pub mod Witness
