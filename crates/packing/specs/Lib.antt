-- The definitions that contracts cite.
pub mod Refusals
pub mod Entry
pub mod Kinds
pub mod Laws
