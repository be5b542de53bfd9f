-- The definitions that contracts cite.
pub mod Lines
pub mod Served
pub mod Written
