-- The laws of the definitions.
pub mod PairLaw
pub mod RowLaw
pub mod OpenLaw
pub mod DraftLaw
pub mod GeneratedLaw
