pub mod Lent
pub mod Refuting
pub mod Branching
