-- The definitions that contracts cite.
pub mod Order
pub mod Laws
