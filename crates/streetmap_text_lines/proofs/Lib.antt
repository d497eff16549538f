pub mod LineLemmas
pub mod WholeLemmas
pub mod WriteLemmas
