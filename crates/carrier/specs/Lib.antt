pub mod Carriers
pub mod Loopback
pub mod Parcels
pub mod Stored
pub mod Stores
pub mod Queues
pub mod Rings
