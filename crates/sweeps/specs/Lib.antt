pub mod Env
pub mod Sweeps
pub mod Counted
