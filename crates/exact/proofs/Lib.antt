-- The lemmas that several proofs share.
mod Leading
mod Telling
mod SummingOld
mod Joining
mod Choosing
mod Bests
