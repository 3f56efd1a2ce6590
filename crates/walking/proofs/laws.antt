-- The laws of the definitions.
pub mod TurnLaw
pub mod WalkedLaw
