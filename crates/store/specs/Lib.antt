pub mod Store
pub mod Live
pub mod laws
