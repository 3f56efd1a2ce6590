pub mod FactsKeptLaw
