pub mod Layouts
pub mod Tables
