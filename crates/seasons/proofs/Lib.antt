-- The lemmas that several proofs share.
mod Filling
pub mod Playing
mod ByRule
