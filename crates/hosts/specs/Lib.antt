pub mod Hosts
pub mod HostLaws
pub mod Turnless
pub mod Children
