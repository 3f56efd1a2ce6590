-- The laws of the definitions.
pub mod BrokenLaw
pub mod ReadingLaw
pub mod PhaseLaw
pub mod EncodedLaw
pub mod InjectiveLaw
pub mod PartLaw
pub mod RowLaw
pub mod RowTableLaw
pub mod ReachedLaw
pub mod CommandLaw
pub mod AcceptedLaw
pub mod RefusalLaw
pub mod ProgressLaw
pub mod AcceptsLaw
pub mod TablesLaw
pub mod WakingLaw
