-- What the proofs of the functions share.
mod OverLaw
mod RespondLaw
mod OperateLaw
mod FailureLaw
mod OpenLaw
mod JudgingLaw
