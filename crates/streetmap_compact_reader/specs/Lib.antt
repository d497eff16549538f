pub mod Flat
pub mod Fronts
pub mod Compact
