-- What the proofs of the functions share.
mod MembersLaw
mod NotesLaw
