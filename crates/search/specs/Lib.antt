pub mod Search
pub mod Shown
pub mod Rooms
pub mod laws
