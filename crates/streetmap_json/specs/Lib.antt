pub mod NumberText
pub mod JsonText
pub mod Reads
pub mod ExactData
pub mod Values
