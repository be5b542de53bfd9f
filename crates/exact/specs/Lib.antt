-- The definitions that contracts cite.
pub mod Pans
pub mod Few
pub mod Old
pub mod Answers
