pub mod CallResults
pub mod TableModel
pub mod IndexesListed
pub mod Reopenings
pub mod HeldFiles
pub mod RefusalCauses
pub mod Reasons
