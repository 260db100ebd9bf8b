pub mod Contents
pub mod Desks
pub mod Lines
pub mod LinesLeft
pub mod Answers
pub mod Tallies
