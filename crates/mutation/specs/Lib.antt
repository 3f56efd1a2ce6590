pub mod Answers
pub mod Operate
pub mod Judging
