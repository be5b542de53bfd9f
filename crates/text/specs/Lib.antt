-- What the contracts cite.
pub mod Counts
pub mod Held
pub mod Reading
pub mod Scanning
pub mod Table
pub mod Written
