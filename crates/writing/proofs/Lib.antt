pub mod laws
pub mod RestLaw
pub mod WriteLaw
