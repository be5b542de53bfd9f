-- The definitions that contracts cite.
pub mod Sweep
pub mod Lane
