pub mod Record
pub mod Means
pub mod Answers
pub mod Steps
