pub mod Answers
pub mod Faults
pub mod Calls
