pub mod Sizes
pub mod Listing
pub mod Marking
pub mod Envelopes
