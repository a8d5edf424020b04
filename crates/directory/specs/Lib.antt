pub mod Cables
pub mod Directory
pub mod Example
pub mod Law
pub mod Paths
pub mod Queue
