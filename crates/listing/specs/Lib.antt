pub mod Lines
pub mod Listed
pub mod Shown
pub mod FaultLines
pub mod PlaceLines
pub mod RecordLines
pub mod Explained
pub mod Reduced
