pub mod Choices
pub mod Parts
pub mod Verbs
pub mod Lines
pub mod Taken
pub mod Laws
