pub mod Faults
pub mod Groups
pub mod Forms
pub mod Reads
pub mod Writes
