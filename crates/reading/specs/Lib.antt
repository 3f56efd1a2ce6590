pub mod Layout
pub mod words
