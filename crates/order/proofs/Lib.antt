-- The lemmas that several proofs share, here and in the crates above.
pub mod Orders
pub mod Over
