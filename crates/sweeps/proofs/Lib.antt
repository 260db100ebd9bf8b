pub mod FullSpaces
