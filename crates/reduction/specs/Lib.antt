pub mod Progress
pub mod Compacts
pub mod Numbers
pub mod Tidyings
