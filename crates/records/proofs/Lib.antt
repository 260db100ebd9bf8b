pub mod Members
pub mod Tables
pub mod Lawful
pub mod Values
