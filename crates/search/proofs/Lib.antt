pub mod Members
pub mod Orders
pub mod Leasts
pub mod Impacts
pub mod Finds
