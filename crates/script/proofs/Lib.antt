pub mod Kept
pub mod Ignored
pub mod Sayings
