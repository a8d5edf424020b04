pub mod Memory
pub mod Whole
pub mod Parts
