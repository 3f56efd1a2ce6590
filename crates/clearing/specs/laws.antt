pub mod SlotLaw
pub mod SurvivorLaw
pub mod BlamesLaw
