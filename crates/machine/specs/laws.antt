pub mod LaidLaw
pub mod FitsLaw
