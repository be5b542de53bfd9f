-- The lemmas that several proofs share.
mod OneKind
mod Playing
mod Promised
mod Reading
mod Refused
