pub mod Faults
pub mod Kinds
pub mod Ledgers
pub mod Pages
pub mod Transfers
pub mod LedgersLemmas
pub mod Numbers
