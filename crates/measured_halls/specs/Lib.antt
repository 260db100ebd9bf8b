pub mod Decimals
pub mod Halls
