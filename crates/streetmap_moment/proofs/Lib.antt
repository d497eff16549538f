pub mod DateFacts
pub mod DigitFacts
pub mod TextFacts
pub mod IntervalFacts
pub mod IntervalTextFacts
pub mod ReadFacts
pub mod PropertyFacts
