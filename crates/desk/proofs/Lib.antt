-- The lemmas that several proofs share.
mod Opened
