pub mod words
pub mod laws
