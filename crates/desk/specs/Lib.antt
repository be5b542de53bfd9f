-- The definitions that contracts cite.
pub mod Replies
pub mod Heard
pub mod Kept
pub mod Obeys
pub mod Printed
