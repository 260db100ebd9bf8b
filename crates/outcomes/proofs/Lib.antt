pub mod Caps
pub mod Turns
