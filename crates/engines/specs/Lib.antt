-- The definitions that contracts cite.
pub mod Bytes
pub mod Kinds
pub mod Lacks
pub mod Plain
pub mod PlainLaw
pub mod Sizes
