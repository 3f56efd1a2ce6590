pub mod Sheet
pub mod Reading
pub mod Encode
pub mod Part
pub mod Tables
pub mod WellFormed
pub mod words
pub mod laws
