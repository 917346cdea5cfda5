pub mod Laws
pub mod Turns
pub mod Puts
pub mod Back
pub mod Exact
pub mod Becoming
