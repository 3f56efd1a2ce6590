pub mod Numbers
pub mod Driving
pub mod laws
