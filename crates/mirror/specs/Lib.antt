pub mod Mirror
pub mod Reflect
pub mod laws
