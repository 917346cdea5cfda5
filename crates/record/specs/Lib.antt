pub mod Faults
pub mod Clauses
pub mod Records
pub mod Reads
pub mod Held
pub mod Marks
pub mod Kind
pub mod Reductions
