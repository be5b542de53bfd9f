-- The lemmas that several proofs share.
mod Looking
mod Testing
