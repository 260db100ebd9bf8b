pub mod WordSteps
pub mod PartSteps
pub mod Capped
pub mod Tens
pub mod Nearest
pub mod Numerals
pub mod Joined
