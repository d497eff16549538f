pub mod BatchesCounted
pub mod TableCalls
pub mod Reopened
pub mod NewFiles
pub mod JustOpened
pub mod Refusals
