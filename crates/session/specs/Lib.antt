pub mod Lines
pub mod Sessions
pub mod Answers
pub mod Goings
