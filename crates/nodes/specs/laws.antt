pub mod TellLaw
