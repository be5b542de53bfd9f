-- The lemmas that several proofs share, here and in the crates above.
pub mod ByPan
pub mod Growing
pub mod Merging
pub mod Fronts
