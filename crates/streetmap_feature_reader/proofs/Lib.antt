pub mod Fronts
pub mod TextsRead
