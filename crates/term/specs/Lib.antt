pub mod Sameness
pub mod Lawful
pub mod Words
pub mod Coding
pub mod Standing
pub mod Joins
pub mod Joined
pub mod Matched
