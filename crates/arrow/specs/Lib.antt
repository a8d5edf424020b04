pub mod World
pub mod Rules
pub mod Runs
pub mod Clauses
pub mod Facts
pub mod Example
pub mod Mask
