-- The lemmas that several proofs share, here and in the crates above.
pub mod Masks
pub mod Narrowing
pub mod Ruling
