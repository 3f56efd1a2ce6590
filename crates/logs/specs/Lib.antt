pub mod Tests
pub mod Recorded
pub mod Walked
pub mod Suites
pub mod laws
