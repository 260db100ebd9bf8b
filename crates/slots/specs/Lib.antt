pub mod Store
pub mod Records
pub mod Rules
pub mod Laws
pub mod Faults
