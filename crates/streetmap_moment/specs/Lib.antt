pub mod Range
pub mod IntervalValue
pub mod DateTime
pub mod IntervalText
pub mod DateTimeParts
pub mod Intervals
pub mod Meeting
pub mod Views
