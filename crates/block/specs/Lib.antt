pub mod Layout
pub mod Tabulated
pub mod Logged
pub mod Sites
pub mod Tabled
pub mod Packing
pub mod laws
