pub mod Opened
pub mod Openings
pub mod Stored
pub mod Steps
pub mod Waits
