-- The lemmas that several proofs share.
pub mod Sums
pub mod OnKinds
pub mod Taking
pub mod Filling
pub mod Lowering
pub mod Laying
pub mod Joining
pub mod Together
pub mod Clipping
pub mod Finding
pub mod Reading
pub mod Mixes
