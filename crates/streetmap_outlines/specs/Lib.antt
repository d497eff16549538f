pub mod Chunks
pub mod Outlines
pub mod Selections
pub mod Within
