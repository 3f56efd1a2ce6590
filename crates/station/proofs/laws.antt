pub mod ProgressLaw
pub mod AgreeLaw
pub mod StandsLaw
pub mod VerdictLaw
pub mod PassedLaw
pub mod ToldLaw
