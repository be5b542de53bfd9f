-- The definitions that contracts cite.
pub mod Choice
pub mod Numbered
pub mod Ruled
pub mod Stand
pub mod Tallied
