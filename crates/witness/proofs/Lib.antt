mod Occurring
mod Noting
mod Noted
pub mod Inside
