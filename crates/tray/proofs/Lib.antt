-- What the proofs of the functions share.
mod BoardLaw
mod HighLaw
mod TryLaw
mod OutcomeLaw
