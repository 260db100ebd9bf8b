pub mod Fractions
pub mod Situations
pub mod Pairs
pub mod Served
pub mod SweepLaws
