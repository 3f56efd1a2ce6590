pub mod KeysLaw
pub mod SpellLaw
pub mod PartsLaw
pub mod SearchLaw
pub mod NumberLaw
