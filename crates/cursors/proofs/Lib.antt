-- What the proofs of the functions share.
mod NarrowingLaw
mod MarkingLaw
