pub mod Texts
pub mod PlainTexts
pub mod BodyTexts
pub mod LineParts
pub mod ChangeLines
