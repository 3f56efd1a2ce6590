pub mod laws
-- What the proofs of the functions share.
mod TakingLaw
