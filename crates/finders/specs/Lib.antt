pub mod Members
pub mod Finders
pub mod FinderLaws
pub mod Tables
pub mod TableLaws
pub mod Filters
pub mod FilterLaws
pub mod Faults
