pub mod CapLaws
pub mod Meetings
