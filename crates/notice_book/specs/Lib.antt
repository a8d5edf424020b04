pub mod Bytes
pub mod Examples
pub mod Laws
pub mod Notices
pub mod Texts
pub mod NoticesLemmas
pub mod Packing
pub mod Rows
