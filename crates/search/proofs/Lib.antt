-- What the proofs of the functions share.
mod SearchLaw
mod AfterLaw
mod CheckLaw
