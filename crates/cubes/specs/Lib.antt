pub mod Sets
pub mod Cube
pub mod Walk
pub mod Facts
pub mod laws
