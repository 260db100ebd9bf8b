pub mod Slides
pub mod SlideLaws
