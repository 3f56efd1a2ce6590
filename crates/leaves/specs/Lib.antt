pub mod Members
pub mod Noted
pub mod laws
