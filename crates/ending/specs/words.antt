-- What the crate's functions say to one another and to `reading`: no promise to a user rests on it.
pub mod Ending
