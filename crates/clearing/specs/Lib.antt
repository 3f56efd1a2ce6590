pub mod Sweep
pub mod Looking
pub mod Asking
pub mod laws
