pub mod Keys
pub mod Changes
