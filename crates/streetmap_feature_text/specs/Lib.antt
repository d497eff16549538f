pub mod Written
pub mod Plain
pub mod Ends
pub mod PackedIntervalView
pub mod Packed
pub mod WrittenFeatures
