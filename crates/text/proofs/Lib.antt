-- Lemmas that several proofs share, here and in the crates above.
mod Cuts
mod Digits
mod Found
mod Lines
mod Listing
pub mod Numerals
pub mod Printing
mod Rows
pub mod Spacing
