pub mod MarkLaw
pub mod TriedLaw
