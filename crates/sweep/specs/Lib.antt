pub mod Turning
pub mod Outcomes
pub mod laws
