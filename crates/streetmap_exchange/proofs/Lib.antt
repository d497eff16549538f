pub mod ImportLemmas
pub mod KeeperLemmas
pub mod ExportLemmas
pub mod LawLemmas
pub mod LineFeeds
pub mod LineLemmas
pub mod Printing
pub mod OfJournal
