pub mod Index
pub mod OutlinePages
pub mod Indexed
