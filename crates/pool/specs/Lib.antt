pub mod Steers
