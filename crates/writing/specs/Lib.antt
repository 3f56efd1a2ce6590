pub mod Drawing
pub mod Writing
pub mod words
