pub mod Known
pub mod Replies
pub mod Steps
pub mod Following
pub mod Listing
pub mod Runs
pub mod KnownSummaries
pub mod Over
