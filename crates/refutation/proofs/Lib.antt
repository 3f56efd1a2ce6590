mod BranchLaw
mod FactsLaw
