pub mod Laid
pub mod Product
pub mod Tree
pub mod Differences
pub mod Fits
pub mod laws
