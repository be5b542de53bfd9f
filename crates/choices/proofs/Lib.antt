-- The lemmas that several proofs share, here and in the crates above.
mod Looking
pub mod Blocks
pub mod Leaving
pub mod Choices
pub mod Counted
pub mod Made
pub mod Marked
pub mod Numbers
pub mod Tallies
