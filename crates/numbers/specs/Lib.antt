pub mod Constants
pub mod Reals
pub mod Picks
pub mod Least
pub mod Along
pub mod Laws
