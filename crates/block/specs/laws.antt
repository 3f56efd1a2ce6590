pub mod ChoiceLaw
pub mod TabledLaw
pub mod OpenedLaw
pub mod LoggedLaw
