-- The definitions and statements that contracts cite.
pub mod Laws
pub mod Narrow
pub mod Narrows
