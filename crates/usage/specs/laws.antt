pub mod MarksLaw
