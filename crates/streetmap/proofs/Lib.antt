pub mod KeptByReads
pub mod Nobody
pub mod Counts
pub mod Commands
pub mod Readers
pub mod Tokens
