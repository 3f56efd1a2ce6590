pub mod GrowingLaw
