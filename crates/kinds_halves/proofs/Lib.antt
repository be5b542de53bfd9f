-- The lemmas that several proofs share.
mod ByKind
mod Groups
mod Walking
mod Skipping
mod Clearing
mod Mixing
