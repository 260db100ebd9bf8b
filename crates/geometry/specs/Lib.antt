pub mod Vectors
pub mod Poses
pub mod Boxes
pub mod Groups
pub mod Handles
pub mod Kinds
