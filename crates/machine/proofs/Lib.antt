-- What the proofs of the functions share.
mod SequenceLaw
mod ProductLaw
mod PathLaw
mod TreeLaw
mod LayLaw
mod MisfitLaw
