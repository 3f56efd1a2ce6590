pub mod WrongLaw
pub mod RecordLaw
