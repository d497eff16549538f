pub mod Decoding
pub mod Finding
pub mod Roots
pub mod NumberTexts
