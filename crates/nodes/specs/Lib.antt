pub mod Refuting
pub mod Prefix
pub mod laws
