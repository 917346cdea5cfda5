pub mod Clauses
pub mod Beginnings
pub mod Reduction
pub mod Variants
pub mod Joins
pub mod Numbering
pub mod Narrowness
pub mod Least
