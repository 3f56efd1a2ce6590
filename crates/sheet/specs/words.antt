-- What the crates that read a sheet say to one another: no promise to a user rests on it.
pub mod Tabled
