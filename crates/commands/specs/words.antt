-- What the crate's own functions say to one another, and to `reading`: no promise to a user rests on it.
pub mod Fetch
pub mod Held
