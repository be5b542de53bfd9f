-- Lemmas.
pub mod Known
pub mod Cutting
pub mod Running
