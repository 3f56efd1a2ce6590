pub mod Walks
pub mod Reaching
