pub mod Faults
pub mod Packed
pub mod Then
pub mod Reads
pub mod Writes
pub mod Becomes
