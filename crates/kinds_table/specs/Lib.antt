-- The definitions that contracts cite.
pub mod Costs
pub mod Rows
pub mod Plans
