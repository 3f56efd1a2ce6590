-- What the proofs of the functions share.
mod AppendLaw
mod GrowLaw
mod MadeLaw
