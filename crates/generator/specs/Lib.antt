pub mod Generating
pub mod Generated
pub mod words
