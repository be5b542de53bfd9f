-- The definitions that contracts cite.
pub mod Pans
pub mod Rows
pub mod Surveyed
