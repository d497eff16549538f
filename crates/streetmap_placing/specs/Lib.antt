pub mod Faults
pub mod Options
pub mod Roles
pub mod Placed
pub mod Text
pub mod Value
