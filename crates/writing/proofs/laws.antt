-- The laws of the definitions.
pub mod DrawingLaw
pub mod WritingLaw
pub mod SpelledLaw
pub mod LengthLaw
