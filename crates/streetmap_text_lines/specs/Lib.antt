pub mod Lines
pub mod LineReads
pub mod Whole
pub mod Written
