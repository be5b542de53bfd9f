-- The definitions that contracts cite.
pub mod Entries
pub mod Part
