-- The lemmas that several proofs share, here and in the crates above.
pub mod Mixing
pub mod Weighing
