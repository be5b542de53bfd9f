-- The lemmas that several proofs share, here and in the crates above.
mod Striding
mod Sweeping
