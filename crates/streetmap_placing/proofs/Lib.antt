pub mod Outcomes
pub mod Walk
pub mod Once
pub mod Valued
