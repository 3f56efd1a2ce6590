pub mod laws
pub mod StandingLaw
pub mod GenerateLaw
