-- Lemmas.
pub mod Nearness
