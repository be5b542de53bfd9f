-- The definitions that contracts cite.
pub mod Place
pub mod Ring
