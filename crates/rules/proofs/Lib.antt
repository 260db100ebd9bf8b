pub mod Scanned
pub mod Owned
pub mod Decided
pub mod Poses
pub mod Follows
