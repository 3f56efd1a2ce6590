pub mod Marks
pub mod Tried
pub mod laws
