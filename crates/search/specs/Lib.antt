-- The definitions that contracts cite.
pub mod Block
pub mod Groups
pub mod Numbers
pub mod Sought
