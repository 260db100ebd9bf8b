pub mod ShortLists
pub mod Places
