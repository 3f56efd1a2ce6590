-- What the crate's own functions say to one another: no promise to a user rests on it.
pub mod Searched
pub mod Ordered
