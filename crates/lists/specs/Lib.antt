pub mod Lists
pub mod Options
pub mod laws
pub mod Proving
