-- The definitions that contracts cite.
pub mod Asked
pub mod Entries
pub mod Half
pub mod Next
