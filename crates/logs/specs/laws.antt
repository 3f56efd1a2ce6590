pub mod TestsLaw
pub mod WalkedLaw
pub mod SizeLaw
pub mod SuitesLaw
