pub mod Statements
pub mod Good
pub mod Held
pub mod QueryResults
pub mod KnownCollections
pub mod CheckResults
