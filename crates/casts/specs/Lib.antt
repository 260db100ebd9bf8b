pub mod Flights
pub mod Refusals
pub mod Pieces
pub mod Reports
pub mod Singles
