pub mod Answers
pub mod Linkages
pub mod Spreads
pub mod Counts
pub mod Formed
pub mod Exact
pub mod Puts
