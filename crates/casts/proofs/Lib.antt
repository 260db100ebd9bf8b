pub mod Singles
pub mod Soonest
