pub mod Writes
pub mod Ones
pub mod Exact
pub mod Kept
