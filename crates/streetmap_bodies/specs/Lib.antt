pub mod Plain
pub mod Errors
pub mod Replies
pub mod RequestFaults
pub mod Changes
pub mod Bodies
pub mod Status
pub mod LineTexts
