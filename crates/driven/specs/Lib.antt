pub mod Histories
pub mod Rows
