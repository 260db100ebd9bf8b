pub mod Scans
pub mod Rules
pub mod Holds
pub mod Admitted
pub mod Laws
