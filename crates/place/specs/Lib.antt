pub mod Faults
pub mod Packing
pub mod Places
pub mod Held
