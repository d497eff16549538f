pub mod Cells
pub mod Envelopes
pub mod Searches
