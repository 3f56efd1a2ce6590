pub mod CompareLaw
pub mod UniteLaw
pub mod PartsLaw
pub mod OpenLaw
pub mod JoinLaw
pub mod MergeLaw
