pub mod ClampLaws
