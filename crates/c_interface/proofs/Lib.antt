-- Lemmas of the crate's own.
mod Telling
