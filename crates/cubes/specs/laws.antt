pub mod SetLaw
pub mod LiteralLaw
pub mod SuspectedLaw
pub mod StartsLaw
pub mod ConformLaw
pub mod WalkLaw
pub mod JoinLaw
pub mod FreeLaw
