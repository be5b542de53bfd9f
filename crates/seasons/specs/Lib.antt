-- The definitions that contracts cite.
pub mod Fall
pub mod Handfuls
pub mod Season
