-- What the functions that spell promise: no promise to a user rests on it.
pub mod Spelled
