pub mod Faults
pub mod Counted
pub mod Kept
pub mod Changes
pub mod Piped
pub mod Images
pub mod Served
pub mod Tokens
