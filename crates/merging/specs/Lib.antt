pub mod Answers
pub mod words
