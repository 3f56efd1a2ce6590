pub mod FactsKept
pub mod Steering
pub mod laws
