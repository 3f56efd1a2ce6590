pub mod laws
pub mod AlongLaw
pub mod OperateLaw
