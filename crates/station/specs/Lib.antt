pub mod Station
pub mod Answers
pub mod Calls
pub mod Told
pub mod words
