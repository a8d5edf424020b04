pub mod Quoting
pub mod Reading
pub mod Yielded
pub mod Tables
