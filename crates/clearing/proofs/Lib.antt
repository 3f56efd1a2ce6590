mod OrderLaw
mod LookLaw
mod AskLaw
