pub mod Blanks
pub mod FastShapes
pub mod PairCasts
