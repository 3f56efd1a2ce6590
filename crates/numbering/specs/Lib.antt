pub mod Told
pub mod words
