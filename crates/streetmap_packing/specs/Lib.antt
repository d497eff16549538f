pub mod Runs
pub mod Packs
pub mod PackingState
pub mod Underway
pub mod PackerView
pub mod Laws
