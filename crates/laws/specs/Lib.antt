-- The definitions and statements that contracts cite.
pub mod Examples
pub mod Rows
pub mod Laws
