pub mod Downward
pub mod DownwardLaws
