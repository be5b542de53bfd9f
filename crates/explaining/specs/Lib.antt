-- The definitions that contracts cite.
pub mod Flaws
pub mod Reasons
pub mod Words
