pub mod Cutting
pub mod Numbers
