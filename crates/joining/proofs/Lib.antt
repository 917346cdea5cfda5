pub mod Standing
pub mod Fitting
pub mod Turns
