-- The definitions that contracts cite.
pub mod Refusals
pub mod Windows
pub mod Kind
pub mod Entry
pub mod Season
pub mod Laws
pub mod Sizes
