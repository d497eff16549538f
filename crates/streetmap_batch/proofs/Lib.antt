pub mod NameFacts
pub mod Puts
pub mod MemberFacts
pub mod EditLists
pub mod Parts
pub mod TextFacts
pub mod IdFacts
pub mod Readings
