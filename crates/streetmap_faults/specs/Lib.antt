pub mod Reports
pub mod ProgramFaults
