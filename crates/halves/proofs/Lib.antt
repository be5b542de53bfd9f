-- The lemmas that several proofs share, here and in the crates above.
mod Answered
pub mod Asking
mod Cutting
pub mod Joining
mod RoomParts
