-- The lemmas that several proofs share, here and in the crates above.
pub mod Groups
pub mod Filling
pub mod Useless
pub mod Steps
pub mod Whole
