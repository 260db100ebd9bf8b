pub mod Faults
pub mod Lists
pub mod ListLaws
pub mod Bodies
pub mod Colliders
pub mod Equality
