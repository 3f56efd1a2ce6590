pub mod Taking
pub mod Walked
