-- The lemmas that several proofs share.
mod Adding
mod Joining
mod Making
mod Surveying
mod Filling
mod OldNumber
mod Reading
mod Bests
