-- What the proofs of the functions share.
mod PressLaw
mod AddLaw
