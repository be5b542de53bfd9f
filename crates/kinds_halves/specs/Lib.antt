-- The definitions that contracts cite.
pub mod Passing
pub mod Walk
