pub mod Strokes
pub mod Laws
