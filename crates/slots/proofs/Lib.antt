pub mod Steps
pub mod Chains
pub mod Decided
pub mod Rules
pub mod Maps
pub mod Lasting
pub mod Stacks
pub mod Whole
