pub mod Slots
pub mod Undo
pub mod Does
pub mod Plain
