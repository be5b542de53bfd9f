-- The proofs of the promises.
pub mod Best
mod Examples
pub mod Rows
