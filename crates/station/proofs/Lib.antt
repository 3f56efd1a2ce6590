pub mod laws
-- What the proofs of the functions share.
mod ReadLaw
mod PressLaw
mod WalkLaw
mod PartsLaw
mod AnswerLaw
