pub mod Adding
pub mod words
pub mod laws
