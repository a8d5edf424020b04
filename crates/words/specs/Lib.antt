pub mod Refusals
pub mod Bodies
pub mod BodyWords
pub mod WordKinds
pub mod Fields
pub mod Messages
pub mod Events
pub mod Parts
