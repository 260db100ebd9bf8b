pub mod Cuts
pub mod Words
pub mod WordsLeft
pub mod Troubles
pub mod Digits
pub mod Reals
pub mod Places
pub mod Laws
