pub mod Loops
pub mod Queues
pub mod Waits
