pub mod Written
pub mod Reports
pub mod Completion
pub mod Place
pub mod Starts
pub mod Front
pub mod Comparison
pub mod Journaled
