pub mod Fronts
pub mod Slots
pub mod Blanks
pub mod Settings
pub mod Shuffles
pub mod Reports
pub mod Barrings
